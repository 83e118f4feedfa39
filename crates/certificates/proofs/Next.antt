-- What a line gives of the fields.
use Rattle.std.proofs.Common.{◌≡◌, ◌≢◌, ℕ, ◌<◌, ◌^◌, true, false, List, [], ◌∷◌, ◌++◌, map, refl, sym, ◌∙◌, ap, subst, Option, Some, None, ℤ}
use Rattle.std.specs.Prelude.{All, Result, Ok, Err, IfOk, MatchOption}
use Rattle.std.specs.Option.{option_map, option_to_list}
use Rattle.std.specs.List.{list_any}
use Rattle.lists.proofs.Lemmas.{some_same as same_value}
use Rattle.certificates.specs.declared.lines.line.SectionKind.{SectionKind}
use Rattle.certificates.specs.declared.lines.line.SectionKind.TheVariants.{Loops}
use Rattle.certificates.specs.declared.lines.line.CertLine.{CertLine}
use Rattle.certificates.specs.declared.lines.line.CertLine.TheVariants.{Start, Node, Loop, Bound}
use Rattle.certificates.specs.Loop.{LoopSaid, IsLoopSaid}
use Rattle.certificates.specs.CertLines.{line_text, IsBoundValue, IsLineInRange}
use Rattle.section_check.specs.Section.{IsPotential}
use Rattle.certificates.proofs.LineLemmas.{says_one_thing}
use Rattle.certificates.specs.declared.cert.CertSection.{CertSection}
use Rattle.certificates.specs.declared.cert.SectionSort.{SectionSort}
use Rattle.certificates.specs.Certificate.{Certificate, sort_of}
use Rattle.certificates.specs.Drafts.{Draft, Begun as BegunDraft, Whole, IsDraft, empty_section, with_node, with_loop, put, GoesOn, Refuses, TakesNode, TakesLoop}
use Rattle.certificates.proofs.Lists.{map-push}
use Rattle.certificates.proofs.Sections.{added_node}
use Rattle.certificates.specs.declared.reader.begun.Begun.{Begun}
use Rattle.certificates.specs.declared.reader.reading.Reading.{Reading}
use Rattle.certificates.specs.declared.reader.reading.Reading.TheVariants as readings
use Rattle.certificates.specs.Steps.{sections_of, AreKept, begun_draft, draft_of, IsReading, GivesNext, AddsNext, IsClosed}
use Rattle.certificates.proofs.Going.{node_is, node_draft, node_taken, loop_draft, loop_goes, start_draft, start_kind, start_differs, whole_grammar}
use Rattle.certificates.proofs.Sorts.{same_sort, all_differ, some_same}

-- ---- sections

put_start : (v r : ℕ) (cl : List CertSection) (cu : Option CertSection) (k : SectionKind) (m : ℕ) → put (BegunDraft v r cl cu) (Start k m) ≡ Some (BegunDraft v r (cl ++ option_to_list cu) (Some (empty_section k m)))
put_start v r cl None k m = refl
put_start v r cl (Some s) k m = refl

-- the drafts of equal fields
pub draft_is : (n : Begun) (v r : ℕ) (cl : List CertSection) (cu : Option CertSection) → n.version ≡ v → n.root ≡ r → n.closed.items ≡ cl → n.current ≡ cu → begun_draft n ≡ BegunDraft v r cl cu
draft_is n v r cl cu a b c d = cc

pub starts : (b n : Begun) (k : SectionKind) (m : ℕ) → AreKept b → IsDraft (begun_draft b) → (k ≡ Loops → b.version ≡ 2) → m < 2 ^ 32 → list_any (same_sort (sort_of (empty_section k m))) b.sorts.keys ≡ false
    → n.version ≡ b.version → n.root ≡ b.root → n.closed.items ≡ sections_of b → n.current ≡ Some (empty_section k m) → n.sorts.keys ≡ b.sorts.keys ++ sort_of (empty_section k m) ∷ []
    → GivesNext (begun_draft b) (Start k m) (readings.Begun n)
starts b n k m kept d kind small new v r cl cu ks =
    let same : begun_draft n ≡ BegunDraft b.version b.root (sections_of b) (Some (empty_section k m)) = draft_is n b.version b.root (sections_of b) (Some (empty_section k m)) v r cl cu in
    let differs : All (λ a. a ≢ sort_of (empty_section k m)) (map sort_of (sections_of b)) = subst (All (λ a. a ≢ sort_of (empty_section k m))) kept (all_differ b.sorts.keys (sort_of (empty_section k m)) new) in
    record {
      put = put_start b.version b.root b.closed.items b.current k m ∙ ap Some (sym same);
      reading = (
        ks ∙ (ap (λ (xs : List SectionSort). xs ++ sort_of (empty_section k m) ∷ []) kept
            ∙ (sym (map-push sort_of (sections_of b) (empty_section k m)) ∙ sym (sections_are n (sections_of b) (Some (empty_section k m)) cl cu))),
        subst IsDraft (sym same) (start_draft b.version b.root b.closed.items b.current k m kind small differs d),
      );
    }
  where
    sections_are : (n : Begun) (xs : List CertSection) (cu : Option CertSection) → n.closed.items ≡ xs → n.current ≡ cu → map sort_of (sections_of n) ≡ map sort_of (xs ++ option_to_list cu)
    sections_are n xs cu a b = cc

pub not_of_version : (b : Begun) (k : SectionKind) (m : ℕ) → ((k ≡ Loops → b.version ≡ 2) → ⊥) → ¬ GoesOn (begun_draft b) (Start k m)
not_of_version b k m h g = h (start_kind b.version b.root b.closed.items b.current k m g)

pub not_new : (b : Begun) (k : SectionKind) (m : ℕ) → AreKept b → list_any (same_sort (sort_of (empty_section k m))) b.sorts.keys ≡ true → ¬ GoesOn (begun_draft b) (Start k m)
not_new b k m kept there g =
    some_same b.sorts.keys (sort_of (empty_section k m)) there (subst (All (λ a. a ≢ sort_of (empty_section k m))) (sym kept) (start_differs b.version b.root b.closed.items b.current k m g))

-- ---- the last section in another state

current_is : (n b : Begun) (s t : CertSection) → sort_of t ≡ sort_of s → n.sorts.keys ≡ b.sorts.keys → n.closed.items ≡ b.closed.items → b.current ≡ Some s → n.current ≡ Some t → AreKept b → AreKept n
current_is n b s t same ks cl old new kept =
    let before : map sort_of (sections_of b) ≡ map sort_of (b.closed.items ++ s ∷ []) = ap (λ (o : Option CertSection). map sort_of (b.closed.items ++ option_to_list o)) old in
    let after : map sort_of (sections_of n) ≡ map sort_of (n.closed.items ++ t ∷ []) = ap (λ (o : Option CertSection). map sort_of (n.closed.items ++ option_to_list o)) new in
    let pushed = map-push sort_of b.closed.items s in
    let pushed_too = map-push sort_of n.closed.items t in
    ks ∙ (kept ∙ (before ∙ (pushed ∙ (ap (λ (a : SectionSort). map sort_of b.closed.items ++ a ∷ []) (sym same) ∙ (ap (λ (xs : List CertSection). map sort_of xs ++ sort_of t ∷ []) (sym cl) ∙ (sym pushed_too ∙ sym after))))))

-- what stands in the fields of the next reading, whose last section is another
pub record IsChanged (b n : Begun) (s t : CertSection) : Type 0 where
  pub version : n.version ≡ b.version
  pub root : n.root ≡ b.root
  pub closed : n.closed.items ≡ b.closed.items
  pub sorts : n.sorts.keys ≡ b.sorts.keys
  pub old : b.current ≡ Some s
  pub new : n.current ≡ Some t

changed_draft : (b n : Begun) (s t : CertSection) → IsChanged b n s t → begun_draft n ≡ BegunDraft b.version b.root b.closed.items (Some t)
changed_draft b n s t c = draft_is n b.version b.root b.closed.items (Some t) c.version c.root c.closed c.new

section_draft : (b : Begun) (s : CertSection) → b.current ≡ Some s → begun_draft b ≡ BegunDraft b.version b.root b.closed.items (Some s)
section_draft b s e = draft_is b b.version b.root b.closed.items (Some s) refl refl refl e

pub gives_node : (b n : Begun) (s t : CertSection) (u : ℕ) (p : ℤ) → AreKept b → IsDraft (begun_draft b) → IsChanged b n s t → TakesNode s u → with_node u p s ≡ Some t → u < 2 ^ 32 → IsPotential p → GivesNext (begun_draft b) (Node u p) (readings.Begun n)
gives_node b n s t u p kept d c takes with small potential =
    let before = section_draft b s c.old in
    let after = changed_draft b n s t c in
    let added : added_node u p s ≡ t = same_value (added_node u p s) t (sym (node_is s.section.loops (added_node u p s) takes.no_loop) ∙ with) in
    let sorts : sort_of t ≡ sort_of s = ap sort_of (sym added) in
    record {
      put = ap (λ (x : Draft). put x (Node u p)) before ∙ (ap (λ (o : Option CertSection). option_map (λ (y : CertSection). BegunDraft b.version b.root b.closed.items (Some y)) o) with ∙ ap Some (sym after));
      reading = (
        current_is n b s t sorts c.sorts c.closed c.old c.new kept,
        subst IsDraft (sym after)
            (subst (λ (y : CertSection). IsDraft (BegunDraft b.version b.root b.closed.items (Some y))) added
            (node_draft b.version b.root b.closed.items s u p takes small potential (subst IsDraft before d))),
      );
    }

pub gives_loop : (b n : Begun) (s t : CertSection) (l : LoopSaid) → AreKept b → IsDraft (begun_draft b) → IsChanged b n s t → TakesLoop s l → t ≡ with_loop l s → IsLoopSaid l → GivesNext (begun_draft b) (Loop l) (readings.Begun n)
gives_loop b n s t l kept d c takes with said =
    let before = section_draft b s c.old in
    let after = changed_draft b n s t c in
    record {
      put = ap (λ (x : Draft). put x (Loop l)) before ∙ (ap (λ (y : CertSection). Some (BegunDraft b.version b.root b.closed.items (Some y))) (sym with) ∙ ap Some (sym after));
      reading = (
        current_is n b s t (ap sort_of with) c.sorts c.closed c.old c.new kept,
        subst IsDraft (sym after)
            (subst (λ (y : CertSection). IsDraft (BegunDraft b.version b.root b.closed.items (Some y))) (sym with)
            (loop_draft b.version b.root b.closed.items s l takes said (subst IsDraft before d))),
      );
    }

pub no_node : (b : Begun) (s : CertSection) (u : ℕ) (p : ℤ) → b.current ≡ Some s → ¬ TakesNode s u → ¬ GoesOn (begun_draft b) (Node u p)
no_node b s u p e h g = h (node_taken b.version b.root b.closed.items s u p (subst (λ (x : Draft). GoesOn x (Node u p)) (section_draft b s e) g))

pub no_loop : (b : Begun) (s : CertSection) (l : LoopSaid) → b.current ≡ Some s → ¬ TakesLoop s l → ¬ GoesOn (begun_draft b) (Loop l)
no_loop b s l e h g = h (loop_goes b.version b.root b.closed.items s l (subst (λ (x : Draft). GoesOn x (Loop l)) (section_draft b s e) g))

-- ---- without a section

pub nowhere_node : (b : Begun) (u : ℕ) (p : ℤ) → b.current ≡ None → ¬ GoesOn (begun_draft b) (Node u p)
nowhere_node b u p e g = subst (λ (o : Option CertSection). GoesOn (BegunDraft b.version b.root b.closed.items o) (Node u p)) e g

pub nowhere_loop : (b : Begun) (l : LoopSaid) → b.current ≡ None → ¬ GoesOn (begun_draft b) (Loop l)
nowhere_loop b l e g = subst (λ (o : Option CertSection). GoesOn (BegunDraft b.version b.root b.closed.items o) (Loop l)) e g

-- ---- the bound

put_bound : (v r : ℕ) (cl : List CertSection) (cu : Option CertSection) (bound : Option ℕ) → put (BegunDraft v r cl cu) (Bound bound) ≡ Some (Whole (record { version = v; root = r; sections = cl ++ option_to_list cu; bound = bound }))
put_bound v r cl None bound = refl
put_bound v r cl (Some s) bound = refl

pub ends : (b n : Begun) (cert : Certificate) (bound : Option ℕ) → IsDraft (begun_draft b) → IsBoundValue bound → IsClosed b n → cert ≡ record { version = n.version; root = n.root; sections = n.closed.items; bound = bound } → GivesNext (begun_draft b) (Bound bound) (readings.Whole cert)
ends b n cert bound d range c e =
    let same : cert ≡ record { version = b.version; root = b.root; sections = sections_of b; bound = bound } = certificate_is b n cert bound c e in
    record {
      put = put_bound b.version b.root b.closed.items b.current bound ∙ ap (λ (x : Certificate). Some (Whole x)) (sym same);
      reading = subst (λ (x : Certificate). IsDraft (Whole x)) (sym same) (whole_grammar b.version b.root (sections_of b) bound range d);
    }
  where
    certificate_is : (b n : Begun) (cert : Certificate) (bound : Option ℕ) → IsClosed b n → cert ≡ record { version = n.version; root = n.root; sections = n.closed.items; bound = bound } → cert ≡ record { version = b.version; root = b.root; sections = sections_of b; bound = bound }
    certificate_is b n cert bound c e =
        e
        ∙ (ap (λ (v : ℕ). record { version = v; root = n.root; sections = n.closed.items; bound = bound }) c.version
        ∙ (ap (λ (r : ℕ). record { version = b.version; root = r; sections = n.closed.items; bound = bound }) c.root
        ∙ ap (λ (ss : List CertSection). record { version = b.version; root = b.root; sections = ss; bound = bound }) c.closed))

-- ---- a line

pub adds : (d : Draft) (line : List ℕ) (said : CertLine) (next : Reading) → line ≡ line_text said → IsLineInRange said → GivesNext d said next → IsDraft (draft_of next) → AddsNext d line next
adds d line said next text range g goes = record { adds = record { said = said; text = text; range = range; put = g.put; goes_on = goes }; reading = g.reading }

pub reading_draft : (next : Reading) → IsReading next → IsDraft (draft_of next)
reading_draft readings.Blank h = tt
reading_draft (readings.Versioned version) h = h
reading_draft (readings.Begun b) h = h.1
reading_draft (readings.Whole c) h = h

pub refuses : (d : Draft) (line : List ℕ) (said : CertLine) → line ≡ line_text said → IsLineInRange said → ¬ GoesOn d said → Refuses d line
refuses d line said text range h other in_range text_too g = h (subst (λ (x : CertLine). GoesOn d x) (sym (says_one_thing said other range in_range (sym text ∙ text_too))) g)

pub said_step : {E : Type 0} (d : Draft) (line : List ℕ) (said : CertLine) → line ≡ line_text said → IsLineInRange said → (r : Result (Option Reading) E)
    → IfOk r (λ next. MatchOption next (¬ GoesOn d said) (GivesNext d said)) → IfOk r (λ next. MatchOption next (Refuses d line) (AddsNext d line))
said_step d line said text range (Ok None) h = refuses d line said text range h
said_step d line said text range (Ok (Some n)) h = adds d line said n text range h (reading_draft n h.reading)
said_step d line said text range (Err e) h = tt

pub not_whole : (r : Reading) → ((x : Certificate) → r ≡ readings.Whole x → ⊥) → (c : Certificate) → draft_of r ≢ Whole c
not_whole readings.Blank h c e = absurd (cc)
not_whole (readings.Versioned version) h c e = absurd (cc)
not_whole (readings.Begun b) h c e = absurd (cc)
not_whole (readings.Whole x) h c e = h x refl
