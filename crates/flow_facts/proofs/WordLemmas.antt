-- A word says one thing.
use Rattle.std.proofs.Common.{◌≡◌, ℕ, ◌<◌, List, [], ◌∷◌, ◌++◌, length, get_or, refl, sym, ◌∙◌, ap, subst, arith, false}
use Rattle.std.specs.Prelude.{nat_eq, codes}
use Rattle.std.proofs.lemmas.Bool.{true≢false}
use Rattle.std.proofs.lemmas.List.{append_cancel_left, append_cancel_right, length-append}
use Rattle.std.proofs.lemmas.Str.Parse.{digit_at}
use lib.Pointwise.{pointwise, bytes_decides}
use Rattle.bound_texts.specs.Loops.Lines.{IsNumber}
use Rattle.flow_facts.specs.declared.line.NodeName.{NodeName}
use Rattle.flow_facts.specs.declared.line.NodeName.TheVariants.{Instruction, RaiseStep}
use Rattle.flow_facts.specs.declared.line.SaidScope.{SaidScope}
use Rattle.flow_facts.specs.declared.line.SaidScope.TheVariants.{Alone, PerLoop, InMethod}
use Rattle.flow_facts.specs.declared.line.TotalLine.{TotalLine}
use Rattle.flow_facts.specs.declared.line.OnlyLine.{OnlyLine}
use Rattle.flow_facts.specs.declared.line.FactLine.{FactLine}
use Rattle.flow_facts.specs.declared.line.FactLine.TheVariants.{Total, Only}
use Rattle.flow_facts.specs.Lines.{NamesNode, SaysMost, SayScope, AreTotalWords, AreOnlyWords, AreFactWords}

-- ---- words apart

pub apart : (w v : List ℕ) → pointwise nat_eq w v ≡ false → w ≡ v → ⊥
apart w v f e = true≢false (sym ((bytes_decides w v).1 e) ∙ f)

-- a total isn't `only`
pub most_is_not_only : (word : List ℕ) (n : ℕ) → SaysMost word n → word ≡ codes "only" → ⊥
most_is_not_only word n (digits, is, number) e = let first : 116 ≡ 111 = ap (λ (w : List ℕ). get_or w 0 0) (sym is ∙ e) in omega (arith, first)

per_is_not_in : (a b : List ℕ) → codes "per" ∷ a ∷ [] ≡ codes "in" ∷ b ∷ [] → ⊥
per_is_not_in a b e = apart (codes "per") (codes "in") refl (cc)

-- ---- nodes

r_at : (digits : List ℕ) → get_or (digits ++ 114 ∷ []) (length digits) 0 ≡ 114
r_at [] = refl
r_at (x ∷ digits) = r_at digits

-- a number has no r
pub number_has_no_r : (word digits : List ℕ) (p : ℕ) → word ≡ digits ++ codes "r" → IsNumber word p → ⊥
number_has_no_r word digits p e number =
    let within : length digits < length word = omega (arith, ap length e, length-append digits (114 ∷ [])) in
    let range = digit_at word (length digits) number.0.digits within in
    let here : get_or word (length digits) 0 ≡ 114 = ap (λ (w : List ℕ). get_or w (length digits) 0) e ∙ r_at digits in
    omega (arith, range.1, here)

one_number : (word : List ℕ) (p q : ℕ) → IsNumber word p → IsNumber word q → p ≡ q
one_number word p q a b = sym a.1 ∙ b.1

pub one_node : (word : List ℕ) (a b : NodeName) → NamesNode word a → NamesNode word b → a ≡ b
one_node word (Instruction p) (Instruction q) x y = ap Instruction (one_number word p q x y)
one_node word (Instruction p) (RaiseStep q) x (digits, is, number) = absurd (number_has_no_r word digits p is x)
one_node word (RaiseStep p) (Instruction q) (digits, is, number) y = absurd (number_has_no_r word digits q is y)
one_node word (RaiseStep p) (RaiseStep q) (digits, is, number) (others, is', number') =
    let same : digits ≡ others = append_cancel_right digits others (codes "r") (sym is ∙ is') in
    ap RaiseStep (one_number others p q (subst (λ (d : List ℕ). IsNumber d p) same number) number')

pub one_most : (word : List ℕ) (m n : ℕ) → SaysMost word m → SaysMost word n → m ≡ n
one_most word m n (digits, is, number) (others, is', number') =
    let same : digits ≡ others = append_cancel_left (codes "total<=") digits others (sym is ∙ is') in
    one_number others m n (subst (λ (d : List ℕ). IsNumber d m) same number) number'

-- ---- scopes

pub one_scope : (words : List (List ℕ)) (a b : SaidScope) → SayScope words a → SayScope words b → a ≡ b
one_scope words Alone Alone x y = refl
one_scope words Alone (PerLoop q) x (place, is, number) = absurd (cc)
one_scope words Alone (InMethod n) x (is, name) = absurd (cc)
one_scope words (PerLoop p) Alone (place, is, number) y = absurd (cc)
one_scope words (PerLoop p) (PerLoop q) (place, is, number) (other, is', number') =
    let both : codes "per" ∷ place ∷ [] ≡ codes "per" ∷ other ∷ [] = sym is ∙ is' in
    let same : place ≡ other = cc in
    ap PerLoop (one_number other p q (subst (λ (d : List ℕ). IsNumber d p) same number) number')
one_scope words (PerLoop p) (InMethod n) (place, is, number) (is', name) = absurd (per_is_not_in place n (sym is ∙ is'))
one_scope words (InMethod m) Alone (is, name) y = absurd (cc)
one_scope words (InMethod m) (PerLoop q) (is, name) (place, is', number) = absurd (per_is_not_in place m (sym is' ∙ is))
one_scope words (InMethod m) (InMethod n) (is, name) (is', name') =
    let both : codes "in" ∷ m ∷ [] ≡ codes "in" ∷ n ∷ [] = sym is ∙ is' in
    let same : m ≡ n = cc in
    ap InMethod same

-- ---- lines

total_alike : (a b : TotalLine) → a.name ≡ b.name → a.node ≡ b.node → a.most ≡ b.most → a.scope ≡ b.scope → a ≡ b
total_alike a b name node most scope =
    ap (λ (n : List ℕ). record { name = n; node = a.node; most = a.most; scope = a.scope }) name
    ∙ (ap (λ (u : NodeName). record { name = b.name; node = u; most = a.most; scope = a.scope }) node
    ∙ (ap (λ (m : ℕ). record { name = b.name; node = b.node; most = m; scope = a.scope }) most
    ∙ ap (λ (s : SaidScope). record { name = b.name; node = b.node; most = b.most; scope = s }) scope))

one_total : (words : List (List ℕ)) (a b : TotalLine) → AreTotalWords words a → AreTotalWords words b → a ≡ b
one_total words a b x y =
    let both : a.name ∷ x.node ∷ x.most ∷ x.scope ≡ b.name ∷ y.node ∷ y.most ∷ y.scope = sym x.words_are ∙ y.words_are in
    let name : a.name ≡ b.name = cc in
    let node_text : x.node ≡ y.node = cc in
    let most_text : x.most ≡ y.most = cc in
    let scope_text : x.scope ≡ y.scope = cc in
    let node : a.node ≡ b.node = one_node y.node a.node b.node (subst (λ (w : List ℕ). NamesNode w a.node) node_text x.node_is) y.node_is in
    let most : a.most ≡ b.most = one_most y.most a.most b.most (subst (λ (w : List ℕ). SaysMost w a.most) most_text x.most_is) y.most_is in
    let scope : a.scope ≡ b.scope = one_scope y.scope a.scope b.scope (subst (λ (w : List (List ℕ)). SayScope w a.scope) scope_text x.scope_is) y.scope_is in
    total_alike a b name node most scope

only_alike : (a b : OnlyLine) → a.name ≡ b.name → a.place ≡ b.place → a.targets ≡ b.targets → a ≡ b
only_alike a b name place targets =
    ap (λ (n : List ℕ). record { name = n; place = a.place; targets = a.targets }) name
    ∙ (ap (λ (p : ℕ). record { name = b.name; place = p; targets = a.targets }) place
    ∙ ap (λ (t : List (List ℕ)). record { name = b.name; place = b.place; targets = t }) targets)

one_only : (words : List (List ℕ)) (a b : OnlyLine) → AreOnlyWords words a → AreOnlyWords words b → a ≡ b
one_only words a b x y =
    let both : a.name ∷ x.place ∷ codes "only" ∷ a.targets ≡ b.name ∷ y.place ∷ codes "only" ∷ b.targets = sym x.words_are ∙ y.words_are in
    let name : a.name ≡ b.name = cc in
    let place_text : x.place ≡ y.place = cc in
    let targets : a.targets ≡ b.targets = cc in
    let place : a.place ≡ b.place = one_number y.place a.place b.place (subst (λ (w : List ℕ). IsNumber w a.place) place_text x.place_is) y.place_is in
    only_alike a b name place targets

total_is_not_only : (words : List (List ℕ)) (t : TotalLine) (o : OnlyLine) → AreTotalWords words t → AreOnlyWords words o → ⊥
total_is_not_only words t o x y =
    let both : t.name ∷ x.node ∷ x.most ∷ x.scope ≡ o.name ∷ y.place ∷ codes "only" ∷ o.targets = sym x.words_are ∙ y.words_are in
    let third : x.most ≡ codes "only" = cc in
    most_is_not_only x.most t.most x.most_is third

pub one_fact : (words : List (List ℕ)) (a b : FactLine) → AreFactWords words a → AreFactWords words b → a ≡ b
one_fact words (Total a) (Total b) x y = ap Total (one_total words a b x y)
one_fact words (Total a) (Only b) x y = absurd (total_is_not_only words a b x y)
one_fact words (Only a) (Total b) x y = absurd (total_is_not_only words b a y x)
one_fact words (Only a) (Only b) x y = ap Only (one_only words a b x y)

-- ---- words that name no node

pub no_raise_step : (word digits : List ℕ) → word ≡ digits ++ codes "r" → ((p : ℕ) → ¬ IsNumber digits p) → (n : NodeName) → ¬ NamesNode word n
no_raise_step word digits e none (Instruction p) number = number_has_no_r word digits p e number
no_raise_step word digits e none (RaiseStep p) (others, is, number) =
    none p (subst (λ (d : List ℕ). IsNumber d p) (append_cancel_right others digits (codes "r") (sym is ∙ e)) number)

pub no_instruction : (word : List ℕ) → ((digits : List ℕ) → ¬ (word ≡ digits ++ codes "r")) → ((p : ℕ) → ¬ IsNumber word p) → (n : NodeName) → ¬ NamesNode word n
no_instruction word other none (Instruction p) number = none p number
no_instruction word other none (RaiseStep p) (digits, is, number) = other digits is

-- without a number there is no total
pub no_total : (name node most : List ℕ) (scope : List (List ℕ)) → ((n : ℕ) → ¬ SaysMost most n) → (t : TotalLine) → ¬ AreTotalWords (name ∷ node ∷ most ∷ scope) t
no_total name node most scope none t h =
    let words : name ∷ node ∷ most ∷ scope ≡ t.name ∷ h.node ∷ h.most ∷ h.scope = h.words_are in
    let third : h.most ≡ most = cc in
    none t.most (subst (λ (w : List ℕ). SaysMost w t.most) third h.most_is)
