-- Words read as names, one by one.
use Rattle.std.proofs.Common.{◌≡◌, ℕ, ◌+◌, ◌<◌, Bool, true, false, List, [], ◌∷◌, ◌++◌, length, get_or, take, map, sym, ◌∙◌, ap, subst, arith}
use Rattle.std.specs.Prelude.{Contains}
use Rattle.std.proofs.lemmas.List.{get_or-take, get_or-map, length-take, length-map, map-append, take-map, take_more}
use Rattle.std.proofs.lemmas.List.Elements.{All-nil, All-push}
use Rattle.flow_facts.specs.Lines.{IsMethodName}
use Rattle.flow_facts.specs.Adding.{AddsName}
use Rattle.flow_facts.specs.Meaning.{AreNames}
use Rattle.flow_facts.proofs.AddingLemmas.{still_apart, default_free}

pub no_names : AreNames []
no_names = record { names = All-nil IsMethodName; different = λ i j d lt within. absurd (omega arith) }

-- one name more
pub one_more : (names more : List (List ℕ)) (word : List ℕ) (b : Bool) → AreNames names → AddsName names word more b → b ≡ true → AreNames more × (more ≡ names ++ word ∷ [])
one_more names more word b are adds e =
    let new = subst (AddsName names word more) e adds in (
      subst AreNames (sym new.2)
          (record { names = All-push IsMethodName names word are.names new.0; different = still_apart names word are.different new.1 }),
      new.2,
    )

-- a word that isn't one more
pub none_with : (words names more : List (List ℕ)) (i : ℕ) (word : List ℕ) (b : Bool) → names ≡ take i words → i < length words → get_or words i [] ≡ word
    → AddsName names word more b → b ≡ false → ¬ AreNames words
none_with words names more i word b is within here adds e are =
    let new = subst (AddsName names word more) e adds in
    let there : Contains (take i words) word = subst (λ (ns : List (List ℕ)). Contains ns word) is (new (subst IsMethodName here (are.names i [] within))) in
    let before : there.0 < i = omega (arith, there.1, length-take i words) in
    let same : get_or words there.0 word ≡ word = sym (get_or-take i words there.0 word before) ∙ there.2 in
    let last : get_or words i word ≡ word = default_free words i word [] within ∙ here in
    are.different there.0 i word before within (same ∙ sym last)

-- ---- among words

pub stops : {A : Type 0} (f : A → List ℕ) (ws : List A) (names more : List (List ℕ)) (i : ℕ) (d : A) (b : Bool) → names ≡ map f (take i ws) → i < length ws
    → AddsName names (f (get_or ws i d)) more b → b ≡ false → ¬ AreNames (map f ws)
stops f ws names more i d b is within adds e =
    none_with (map f ws) names more i (f (get_or ws i d)) b (is ∙ sym (take-map f i ws)) (omega (arith, length-map ws f)) (get_or-map f ws i d [] within) adds e

pub goes_on : {A : Type 0} (f : A → List ℕ) (ws : List A) (names more : List (List ℕ)) (i : ℕ) (d : A) (b : Bool) → AreNames names → names ≡ map f (take i ws) → i < length ws
    → AddsName names (f (get_or ws i d)) more b → b ≡ true → AreNames more × (more ≡ map f (take (i + 1) ws))
goes_on f ws names more i d b are is within adds e =
    let m = one_more names more (f (get_or ws i d)) b are adds e in (
      m.0,
      m.1 ∙ (ap (λ (ns : List (List ℕ)). ns ++ f (get_or ws i d) ∷ []) is ∙ (sym (map-append f (take i ws) (get_or ws i d ∷ [])) ∙ ap (map f) (sym (take_more ws i d within)))),
    )
