-- What the fields show behind one line more.
use Rattle.std.proofs.Common.{◌≡◌, ℕ, true, List, [], ◌∷◌, ◌++◌, append_assoc, append-nil, refl, sym, ◌∙◌, ap, subst, Option, Some, None}
use Rattle.std.specs.Prelude.{codes, flat_map, option_map}
use Rattle.std.specs.Option.{option_to_list}
use Rattle.std.proofs.lemmas.List.{map-append}
use Rattle.lists.proofs.FirstLemmas.{flat_map-append}
use Rattle.ascii_text.specs.Line.{with_line_feeds}
use Rattle.priced_cert.specs.declared.prices.Price.{Price}
use Rattle.priced_cert.specs.declared.prices.RootPrice.{RootPrice}
use Rattle.priced_cert.specs.declared.kind.LineKind.{LineKind}
use Rattle.priced_cert.specs.declared.kind.LineKind.TheVariants.{OfPrice, OfSection, OfAlone, OfBound, Other}
use Rattle.priced_cert.specs.declared.parting.Stage.TheVariants as stages
use Rattle.priced_cert.specs.declared.parting.Parting.{Parting}
use Rattle.priced_cert.specs.Prices.{IsBehind, IsBehindInRoot, price_line, root_price_line}
use Rattle.priced_cert.specs.Texts.{version_line}
use Rattle.priced_cert.specs.Parting.{Block, Parted, Blank, Versioned, Begun, Ended, begins, kind_of, plain_of_block, plain_of, empty_block, TakesInside, Takes}
use Rattle.priced_cert.specs.Shown.{prices_of, Shows, ShowsNext}

-- a line feed behind one line more
pub feeds_more : (xs : List (List ℕ)) (l : List ℕ) → with_line_feeds (xs ++ l ∷ []) ≡ with_line_feeds xs ++ (l ++ 10 ∷ [])
feeds_more [] l = refl
feeds_more (x ∷ xs) l = ap (λ (t : List ℕ). x ++ 10 ∷ t) (feeds_more xs l) ∙ sym (append_assoc x (10 ∷ with_line_feeds xs) (l ++ 10 ∷ []))

-- where one line stands behind the others
plain_more : (p q : List ℕ) (w t : Parted) (line : List ℕ) → p ≡ with_line_feeds (plain_of w) → q ≡ p ++ (line ++ 10 ∷ []) → plain_of t ≡ plain_of w ++ line ∷ [] → q ≡ with_line_feeds (plain_of t)
plain_more p q w t line is more e =
    more ∙ (ap (λ (x : List ℕ). x ++ (line ++ 10 ∷ [])) is ∙ (sym (feeds_more (plain_of w) line) ∙ ap with_line_feeds (sym e)))

-- ---- the first two lines

pub takes_version : (old new : Parting) (line : List ℕ) → old.stage ≡ stages.Blank → line ≡ version_line → new.stage ≡ stages.Versioned
    → new.plain.items ≡ old.plain.items ++ (codes "JOPC 2" ++ 10 ∷ []) → new.root_prices.items ≡ old.root_prices.items → new.closed.items ≡ old.closed.items → new.current ≡ old.current
    → (w : Parted) → Shows old w → ShowsNext w line new
takes_version old new line at is stage plain roots closed current Blank s = record {
  next = Versioned;
  takes = (is, refl);
  shows = record {
    stage = stage;
    plain = plain_more old.plain.items new.plain.items Blank Versioned (codes "JOPC 2") s.plain plain refl;
    root_prices = roots ∙ s.root_prices;
    closed = closed ∙ s.closed;
    current = current ∙ s.current;
  };
}
takes_version old new line at is stage plain roots closed current Versioned s = absurd (let e : stages.Versioned ≡ stages.Blank = sym s.stage ∙ at in (cc))
takes_version old new line at is stage plain roots closed current (Begun r xs cl cu) s = absurd (let e : stages.Begun ≡ stages.Blank = sym s.stage ∙ at in (cc))
takes_version old new line at is stage plain roots closed current (Ended r xs bs bound) s = absurd (let e : stages.Ended ≡ stages.Blank = sym s.stage ∙ at in (cc))

pub refuses_version : (old : Parting) (line : List ℕ) → old.stage ≡ stages.Blank → ¬ (line ≡ version_line) → (w t : Parted) → Shows old w → ¬ Takes w line t
refuses_version old line at other Blank t s takes = other takes.0
refuses_version old line at other Versioned t s takes = absurd (let e : stages.Versioned ≡ stages.Blank = sym s.stage ∙ at in (cc))
refuses_version old line at other (Begun r xs cl cu) t s takes = absurd (let e : stages.Begun ≡ stages.Blank = sym s.stage ∙ at in (cc))
refuses_version old line at other (Ended r xs bs bound) t s takes = absurd (let e : stages.Ended ≡ stages.Blank = sym s.stage ∙ at in (cc))

pub takes_root : (old new : Parting) (line : List ℕ) → old.stage ≡ stages.Versioned → begins (codes "root ") line ≡ true → new.stage ≡ stages.Begun
    → new.plain.items ≡ old.plain.items ++ (line ++ 10 ∷ []) → new.root_prices.items ≡ old.root_prices.items → new.closed.items ≡ old.closed.items → new.current ≡ old.current
    → (w : Parted) → Shows old w → ShowsNext w line new
takes_root old new line at is stage plain roots closed current Versioned s = record {
  next = Begun line [] [] None;
  takes = (is, refl);
  shows = record {
    stage = stage;
    plain = plain_more old.plain.items new.plain.items Versioned (Begun line [] [] None) line s.plain plain refl;
    root_prices = roots ∙ s.root_prices;
    closed = closed ∙ s.closed;
    current = current ∙ s.current;
  };
}
takes_root old new line at is stage plain roots closed current Blank s = absurd (let e : stages.Blank ≡ stages.Versioned = sym s.stage ∙ at in (cc))
takes_root old new line at is stage plain roots closed current (Begun r xs cl cu) s = absurd (let e : stages.Begun ≡ stages.Versioned = sym s.stage ∙ at in (cc))
takes_root old new line at is stage plain roots closed current (Ended r xs bs bound) s = absurd (let e : stages.Ended ≡ stages.Versioned = sym s.stage ∙ at in (cc))

pub refuses_root : (old : Parting) (line : List ℕ) → old.stage ≡ stages.Versioned → ¬ (begins (codes "root ") line ≡ true) → (w t : Parted) → Shows old w → ¬ Takes w line t
refuses_root old line at other Versioned t s takes = other takes.0
refuses_root old line at other Blank t s takes = absurd (let e : stages.Blank ≡ stages.Versioned = sym s.stage ∙ at in (cc))
refuses_root old line at other (Begun r xs cl cu) t s takes = absurd (let e : stages.Begun ≡ stages.Versioned = sym s.stage ∙ at in (cc))
refuses_root old line at other (Ended r xs bs bound) t s takes = absurd (let e : stages.Ended ≡ stages.Versioned = sym s.stage ∙ at in (cc))

pub refuses_behind : (old : Parting) (line : List ℕ) → old.stage ≡ stages.Ended → (w t : Parted) → Shows old w → ¬ Takes w line t
refuses_behind old line at (Ended r xs bs bound) t s takes = takes
refuses_behind old line at Blank t s takes = absurd (let e : stages.Blank ≡ stages.Ended = sym s.stage ∙ at in (cc))
refuses_behind old line at Versioned t s takes = absurd (let e : stages.Versioned ≡ stages.Ended = sym s.stage ∙ at in (cc))
refuses_behind old line at (Begun r xs cl cu) t s takes = absurd (let e : stages.Begun ≡ stages.Ended = sym s.stage ∙ at in (cc))

-- ---- behind the root

-- where the root is read, the state is of that stage
record IsBegun (w : Parted) : Type 0 where
  pub root : List ℕ
  pub root_prices : List RootPrice
  pub closed : List Block
  pub current : Option Block
  pub is : w ≡ Begun root root_prices closed current

begun_is : (old : Parting) (w : Parted) → old.stage ≡ stages.Begun → Shows old w → IsBegun w
begun_is old (Begun r xs cl cu) at s = record { root = r; root_prices = xs; closed = cl; current = cu; is = refl }
begun_is old Blank at s = absurd (let e : stages.Blank ≡ stages.Begun = sym s.stage ∙ at in (cc))
begun_is old Versioned at s = absurd (let e : stages.Versioned ≡ stages.Begun = sym s.stage ∙ at in (cc))
begun_is old (Ended r xs bs bound) at s = absurd (let e : stages.Ended ≡ stages.Begun = sym s.stage ∙ at in (cc))

-- it is enough to show it of that stage
of_begun : (old : Parting) (P : Parted → Type 0) → old.stage ≡ stages.Begun
    → ((r : List ℕ) (xs : List RootPrice) (cl : List Block) (cu : Option Block) → Shows old (Begun r xs cl cu) → P (Begun r xs cl cu)) → (w : Parted) → Shows old w → P w
of_begun old P at f w s =
    let b = begun_is old w at s in
    subst P (sym b.is) (f b.root b.root_prices b.closed b.current (subst (Shows old) b.is s))

at_kind : (k : LineKind) (line : List ℕ) (r : List ℕ) (xs : List RootPrice) (cl : List Block) (cu : Option Block) (t : Parted) → kind_of line ≡ k
    → TakesInside k r xs cl cu line t → Takes (Begun r xs cl cu) line t
at_kind k line r xs cl cu t e h = subst (λ (j : LineKind). TakesInside j r xs cl cu line t) (sym e) h

of_kind : (k : LineKind) (line : List ℕ) (r : List ℕ) (xs : List RootPrice) (cl : List Block) (cu : Option Block) (t : Parted) → kind_of line ≡ k
    → Takes (Begun r xs cl cu) line t → TakesInside k r xs cl cu line t
of_kind k line r xs cl cu t e h = subst (λ (j : LineKind). TakesInside j r xs cl cu line t) e h

closed_more : (cl : List Block) (cu : Option Block) → prices_of (cl ++ option_to_list cu) ≡ prices_of cl ++ option_to_list (option_map (λ b. b.prices) cu)
closed_more cl None = map-append (λ (b : Block). b.prices) cl []
closed_more cl (Some b) = map-append (λ (c : Block). c.prices) cl (b ∷ [])

pub takes_section : (old new : Parting) (line : List ℕ) → old.stage ≡ stages.Begun → kind_of line ≡ OfSection → new.stage ≡ stages.Begun
    → new.plain.items ≡ old.plain.items ++ (line ++ 10 ∷ []) → new.root_prices.items ≡ old.root_prices.items → new.closed.items ≡ old.closed.items ++ option_to_list old.current → new.current ≡ Some []
    → (w : Parted) → Shows old w → ShowsNext w line new
takes_section old new line at kind stage plain roots closed current = of_begun old (λ (w : Parted). ShowsNext w line new) at (λ r xs cl cu s.
    let next = Begun r xs (cl ++ option_to_list cu) (Some (empty_block line)) in
    record {
      next = next;
      takes = at_kind OfSection line r xs cl cu next kind refl;
      shows = record {
        stage = stage;
        plain = plain_more old.plain.items new.plain.items (Begun r xs cl cu) next line s.plain plain
            (ap (λ (ls : List (List ℕ)). codes "JOPC 2" ∷ r ∷ ls) (flat_map-append plain_of_block (cl ++ option_to_list cu) (empty_block line ∷ [])));
        root_prices = roots ∙ s.root_prices;
        closed = closed ∙ (ap (λ (ps : List (List Price)). ps ++ option_to_list old.current) s.closed ∙ (ap (λ (o : Option (List Price)). prices_of cl ++ option_to_list o) s.current ∙ sym (closed_more cl cu)));
        current = current;
      };
    })

pub takes_bound : (old new : Parting) (line : List ℕ) → old.stage ≡ stages.Begun → kind_of line ≡ OfBound → new.stage ≡ stages.Ended
    → new.plain.items ≡ old.plain.items ++ (line ++ 10 ∷ []) → new.root_prices.items ≡ old.root_prices.items → new.closed.items ≡ old.closed.items ++ option_to_list old.current → new.current ≡ None
    → (w : Parted) → Shows old w → ShowsNext w line new
takes_bound old new line at kind stage plain roots closed current = of_begun old (λ (w : Parted). ShowsNext w line new) at (λ r xs cl cu s.
    let next = Ended r xs (cl ++ option_to_list cu) line in
    record {
      next = next;
      takes = at_kind OfBound line r xs cl cu next kind refl;
      shows = record {
        stage = stage;
        plain = plain_more old.plain.items new.plain.items (Begun r xs cl cu) next line s.plain plain refl;
        root_prices = roots ∙ s.root_prices;
        closed = closed ∙ (ap (λ (ps : List (List Price)). ps ++ option_to_list old.current) s.closed ∙ (ap (λ (o : Option (List Price)). prices_of cl ++ option_to_list o) s.current ∙ sym (closed_more cl cu)));
        current = current;
      };
    })

pub refuses_alone : (old : Parting) (line : List ℕ) → old.stage ≡ stages.Begun → kind_of line ≡ OfAlone → (w t : Parted) → Shows old w → ¬ Takes w line t
refuses_alone old line at kind w t s = of_begun old (λ (w : Parted). ¬ Takes w line t) at (λ r xs cl cu s takes. of_kind OfAlone line r xs cl cu t kind takes) w s

-- ---- another line of a section

some_block : (cu : Option Block) (xs : List Price) → Some xs ≡ option_map (λ b. b.prices) cu → (b : Block) × (cu ≡ Some b) × (b.prices ≡ xs)
some_block None xs e = absurd (cc)
some_block (Some b) xs e = (b, refl, (let same : xs ≡ b.prices = cc in sym same))

last_body : (cl : List Block) (b : Block) (line : List ℕ)
    → flat_map plain_of_block (cl ++ (record b { body = b.body ++ line ∷ [] }) ∷ []) ≡ flat_map plain_of_block (cl ++ b ∷ []) ++ line ∷ []
last_body cl b line =
    flat_map-append plain_of_block cl ((record b { body = b.body ++ line ∷ [] }) ∷ [])
    ∙ (ap (λ (ls : List (List ℕ)). flat_map plain_of_block cl ++ ls) (append-nil (b.start ∷ (b.body ++ line ∷ [])) ∙ ap (λ (ls : List (List ℕ)). ls ++ line ∷ []) (sym (append-nil (plain_of_block b))))
    ∙ (sym (append_assoc (flat_map plain_of_block cl) (flat_map plain_of_block (b ∷ [])) (line ∷ []))
    ∙ ap (λ (ls : List (List ℕ)). ls ++ line ∷ []) (sym (flat_map-append plain_of_block cl (b ∷ [])))))

pub takes_other : (old new : Parting) (line : List ℕ) → old.stage ≡ stages.Begun → kind_of line ≡ Other → old.current ≡ Some [] → new.stage ≡ stages.Begun
    → new.plain.items ≡ old.plain.items ++ (line ++ 10 ∷ []) → new.root_prices.items ≡ old.root_prices.items → new.closed.items ≡ old.closed.items → new.current ≡ old.current
    → (w : Parted) → Shows old w → ShowsNext w line new
takes_other old new line at kind none stage plain roots closed current = of_begun old (λ (w : Parted). ShowsNext w line new) at (λ r xs cl cu s.
    let b = some_block cu [] (sym none ∙ s.current) in
    let block = b.0 in
    let more = record block { body = block.body ++ line ∷ [] } in
    let next = Begun r xs cl (Some more) in
    record {
      next = next;
      takes = at_kind Other line r xs cl cu next kind
          (subst (λ (o : Option Block). TakesInside Other r xs cl o line next) (sym b.1) (b.2, refl));
      shows = record {
        stage = stage;
        plain = plain_more old.plain.items new.plain.items (Begun r xs cl (Some block)) next line (subst (λ (o : Option Block). old.plain.items ≡ with_line_feeds (plain_of (Begun r xs cl o))) b.1 s.plain) plain
            (ap (λ (ls : List (List ℕ)). codes "JOPC 2" ∷ r ∷ ls) (last_body cl block line));
        root_prices = roots ∙ s.root_prices;
        closed = closed ∙ s.closed;
        current = current ∙ (s.current ∙ ap (λ (o : Option Block). option_map (λ c. c.prices) o) b.1);
      };
    })

pub refuses_other : (old : Parting) (line : List ℕ) → old.stage ≡ stages.Begun → kind_of line ≡ Other → ¬ (old.current ≡ Some []) → (w t : Parted) → Shows old w → ¬ Takes w line t
refuses_other old line at kind some w t s = of_begun old (λ (w : Parted). ¬ Takes w line t) at (λ r xs cl cu s takes. by r xs cl cu s.current (of_kind Other line r xs cl cu t kind takes)) w s
  where
    by : (r : List ℕ) (xs : List RootPrice) (cl : List Block) (cu : Option Block) → old.current ≡ option_map (λ b. b.prices) cu → TakesInside Other r xs cl cu line t → ⊥
    by r xs cl None is takes = takes
    by r xs cl (Some b) is takes = some (is ∙ ap Some takes.0)

-- ---- prices

pub takes_root_price : (old new : Parting) (line : List ℕ) (x : RootPrice) → old.stage ≡ stages.Begun → kind_of line ≡ OfPrice → old.current ≡ None → line ≡ root_price_line x
    → IsBehindInRoot old.root_prices.items x → new.stage ≡ stages.Begun → new.plain.items ≡ old.plain.items → new.root_prices.items ≡ old.root_prices.items ++ x ∷ [] → new.closed.items ≡ old.closed.items
    → new.current ≡ old.current → (w : Parted) → Shows old w → ShowsNext w line new
takes_root_price old new line x at kind none is behind stage plain roots closed current = of_begun old (λ (w : Parted). ShowsNext w line new) at (λ r xs cl cu s.
    let no = no_block cu (sym none ∙ s.current) in
    let next = Begun r (xs ++ x ∷ []) cl None in
    record {
      next = next;
      takes = at_kind OfPrice line r xs cl cu next kind
          (subst (λ (o : Option Block). TakesInside OfPrice r xs cl o line next) (sym no) (x, is, subst (λ (ys : List RootPrice). IsBehindInRoot ys x) s.root_prices behind, refl));
      shows = record {
        stage = stage;
        plain = plain ∙ (s.plain ∙ ap (λ (o : Option Block). with_line_feeds (plain_of (Begun r xs cl o))) no);
        root_prices = roots ∙ ap (λ (ys : List RootPrice). ys ++ x ∷ []) s.root_prices;
        closed = closed ∙ s.closed;
        current = current ∙ none;
      };
    })
  where
    no_block : (cu : Option Block) → None ≡ option_map (λ b. b.prices) cu → cu ≡ None
    no_block None e = refl
    no_block (Some b) e = absurd (cc)

pub refuses_root_price : (old : Parting) (line : List ℕ) → old.stage ≡ stages.Begun → kind_of line ≡ OfPrice → old.current ≡ None
    → ((x : RootPrice) → IsBehindInRoot old.root_prices.items x → ¬ (line ≡ root_price_line x)) → (w t : Parted) → Shows old w → ¬ Takes w line t
refuses_root_price old line at kind none other w t s = of_begun old (λ (w : Parted). ¬ Takes w line t) at (λ r xs cl cu s takes. by r xs cl cu s.root_prices s.current (of_kind OfPrice line r xs cl cu t kind takes)) w s
  where
    by : (r : List ℕ) (xs : List RootPrice) (cl : List Block) (cu : Option Block) → old.root_prices.items ≡ xs → old.current ≡ option_map (λ b. b.prices) cu → TakesInside OfPrice r xs cl cu line t → ⊥
    by r xs cl None roots is (x, text, behind, e) = other x (subst (λ (ys : List RootPrice). IsBehindInRoot ys x) (sym roots) behind) text
    by r xs cl (Some b) roots is takes = absurd (let e : None ≡ Some b.prices = sym none ∙ is in (cc))

pub takes_price : (old new : Parting) (line : List ℕ) (ps : List Price) (x : Price) → old.stage ≡ stages.Begun → kind_of line ≡ OfPrice → old.current ≡ Some ps → line ≡ price_line x → IsBehind ps x
    → new.stage ≡ stages.Begun → new.plain.items ≡ old.plain.items → new.root_prices.items ≡ old.root_prices.items → new.closed.items ≡ old.closed.items → new.current ≡ Some (ps ++ x ∷ [])
    → (w : Parted) → Shows old w → ShowsNext w line new
takes_price old new line ps x at kind some is behind stage plain roots closed current = of_begun old (λ (w : Parted). ShowsNext w line new) at (λ r xs cl cu s.
    let b = some_block cu ps (sym some ∙ s.current) in
    let block = b.0 in
    let more = record block { prices = block.prices ++ x ∷ [] } in
    let next = Begun r xs cl (Some more) in
    record {
      next = next;
      takes = at_kind OfPrice line r xs cl cu next kind
          (subst (λ (o : Option Block). TakesInside OfPrice r xs cl o line next) (sym b.1) (x, is, subst (λ (ys : List Price). IsBehind ys x) (sym b.2) behind, refl));
      shows = record {
        stage = stage;
        plain = plain ∙ (s.plain ∙ (ap (λ (o : Option Block). with_line_feeds (plain_of (Begun r xs cl o))) b.1 ∙ same_plain r xs cl block (block.prices ++ x ∷ [])));
        root_prices = roots ∙ s.root_prices;
        closed = closed ∙ s.closed;
        current = current ∙ ap (λ (ys : List Price). Some (ys ++ x ∷ [])) (sym b.2);
      };
    })
  where
    same_plain : (r : List ℕ) (xs : List RootPrice) (cl : List Block) (b : Block) (ys : List Price)
        → with_line_feeds (plain_of (Begun r xs cl (Some b))) ≡ with_line_feeds (plain_of (Begun r xs cl (Some (record b { prices = ys }))))
    same_plain r xs cl b ys =
        ap (λ (ls : List (List ℕ)). with_line_feeds (codes "JOPC 2" ∷ r ∷ ls)) (flat_map-append plain_of_block cl (b ∷ []) ∙ sym (flat_map-append plain_of_block cl ((record b { prices = ys }) ∷ [])))

pub refuses_price : (old : Parting) (line : List ℕ) (ps : List Price) → old.stage ≡ stages.Begun → kind_of line ≡ OfPrice → old.current ≡ Some ps
    → ((x : Price) → IsBehind ps x → ¬ (line ≡ price_line x)) → (w t : Parted) → Shows old w → ¬ Takes w line t
refuses_price old line ps at kind some other w t s = of_begun old (λ (w : Parted). ¬ Takes w line t) at (λ r xs cl cu s takes. by r xs cl cu s.current (of_kind OfPrice line r xs cl cu t kind takes)) w s
  where
    by : (r : List ℕ) (xs : List RootPrice) (cl : List Block) (cu : Option Block) → old.current ≡ option_map (λ b. b.prices) cu → TakesInside OfPrice r xs cl cu line t → ⊥
    by r xs cl None is takes = absurd (let e : Some ps ≡ None = sym some ∙ is in (cc))
    by r xs cl (Some b) is (x, text, behind, e) =
        let same : Some ps ≡ Some b.prices = sym some ∙ is in
        let prices : ps ≡ b.prices = cc in
        other x (subst (λ (ys : List Price). IsBehind ys x) (sym prices) behind) text
