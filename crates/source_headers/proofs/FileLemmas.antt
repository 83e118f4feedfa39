-- The files of classes, and the lines of a method among them.
use Rattle.std.proofs.Common.{◌≡◌, ◌↔◌, ℕ, zero, suc, ◌+◌, List, [], ◌∷◌, length, Contains, refl, sym, ◌∙◌, ap, subst, Option, Some, None, inl, inr, Vec, Global}
use Rattle.std.specs.Prelude.{slice_get, Result, Ok, Err, OnOk}
use Rattle.std.specs.Option.{option_map}
use Rattle.std.proofs.lemmas.Option.{slice_get-get_or, slice_get_within}
use Rattle.lists.proofs.Lemmas.{none≢some, some_same, map_some}
use Rattle.lists.specs.Members.{at_head, in_tail, cons_cases, nil_contains}
use Rattle.class_pool.specs.declared.class.ClassFile.{ClassFile}
use Rattle.source_places.specs.declared.methods.sources.MethodSource.{MethodSource}
use Rattle.source_places.specs.Methods.Sources.{file_of, IsFileOf}
use Rattle.source_places.specs.Methods.Told.{line_at, source_by}
use Rattle.bound_causes.specs.declared.shapes.Shape.{Shape}
use Rattle.bound_causes.specs.declared.shapes.Shape.TheVariants.{Irreducible, Reducible}
use Rattle.source_headers.specs.Known.{KnownSites, IsWith}
use Rattle.source_headers.specs.Told.{headed_lines}
use Rattle.source_headers.specs.Gathered.{AreBelow, AreFiles, IsFileAt, IsLineBy, AddsLines, AddsPlaces}
use Rattle.source_headers.proofs.ToldLemmas.{contains_got}
use Rattle.source_headers.proofs.GatherLemmas.{all_below, more_below, mapped_contains}

-- ---- what comes to a list

with_case : {X : Type 0} (old new : List X) (P Q : X → Type 0) → ((x : X) → P x ↔ Q x) → IsWith old new P → IsWith old new Q
with_case old new P Q same w x = (
  λ c. elim ((w x).0 c) [ inl before ↦ inl before | inr here ↦ inr ((same x).0 here) ],
  λ h. elim h [ inl before ↦ (w x).1 (inl before) | inr here ↦ (w x).1 (inr ((same x).1 here)) ],
)

pub with_same : {X E : Type 0} (r : Result (Unit {0}) E) (old new : List X) (P Q : X → Type 0) → ((x : X) → P x ↔ Q x) → OnOk r (IsWith old new P) → OnOk r (IsWith old new Q)
with_same (Ok _) old new P Q same w = with_case old new P Q same w
with_same (Err _) old new P Q same w = tt

pub none_with : {X : Type 0} (old new : List X) → ((x : X) → ¬ Contains old x) → IsWith old new (λ x. ⊥) → (x : X) → ¬ Contains new x
none_with old new none w x c = elim ((w x).0 c) [ inl before ↦ none x before | inr bad ↦ bad ]

-- ---- the file of a class

pub file_same : (c : ClassFile) (file : List ℕ) → Some file ≡ file_of c → (x : List ℕ) → (x ≡ file) ↔ (file_of c ≡ Some x)
file_same c file is x = (λ e. sym is ∙ ap Some (sym e), λ h. some_same x file (sym h ∙ sym is))

pub no_number : (name : List ℕ) (s : List ℕ × ℕ) → ((s.0 ≡ name) × Contains {X = ℕ} [] s.1) ↔ ⊥
no_number name s = (λ h. nil_contains s.1 h.1, λ bad. absurd bad)

module _ (cs : List ClassFile) where
  pub more_files : (n : ℕ) (c : ClassFile) (old new : List (List ℕ)) → slice_get cs n ≡ Some c → AreBelow (IsFileAt cs) n old → IsWith old new (λ file. file_of c ≡ Some file) → AreBelow (IsFileAt cs) (n + 1) new
  more_files n c old new at h w =
      more_below (IsFileAt cs) n old new (λ file. file_of c ≡ Some file) h w
      (λ x. (λ is. (c, at, is), λ of. let same : of.0 ≡ c = some_same of.0 c (sym of.1 ∙ at) in subst (λ (k : ClassFile). file_of k ≡ Some x) same of.2))

  pub all_files : (files : List (List ℕ)) → AreBelow (IsFileAt cs) (length cs) files → AreFiles cs files
  all_files files h x = (to, from)
    where
      below : (x : List ℕ) → Contains files x ↔ ((k : ℕ) × IsFileAt cs k x)
      below = all_below (IsFileAt cs) (length cs) files h (λ k y of. slice_get_within cs k of.0 of.1)

      to : Contains files x → IsFileOf cs x
      to c = let r = (below x).0 c in (r.1.0, contains_got cs r.0 r.1.0 r.1.1, r.1.2)

      from : IsFileOf cs x → Contains files x
      from of = let c = of.1 in (below x).1 (c.0, (of.0, slice_get-get_or cs c.0 of.0 c.1 ∙ ap Some c.2, of.2))

-- ---- lines

told_there : (lines : List (Option ℕ)) (p n : ℕ) → line_at lines p ≡ Some n → Contains lines (Some n)
told_there [] p n h = absurd (none≢some n h)
told_there (x ∷ xs) zero n h = subst (λ (y : Option ℕ). Contains (x ∷ xs) y) h (at_head x xs)
told_there (x ∷ xs) (suc p) n h = in_tail x (Some n) xs (told_there xs p n h)

there_told : (lines : List (Option ℕ)) (n : ℕ) → Contains lines (Some n) → (p : ℕ) × (line_at lines p ≡ Some n)
there_told [] n c = absurd (nil_contains (Some n) c)
there_told (x ∷ xs) n c = elim (cons_cases x (Some n) xs c) [ inl same ↦ (0, same) | inr there ↦ let r = there_told xs n there in (suc r.0, r.1) ]

module _ (source : MethodSource) where
  -- the site of a line of the file
  site_of : (s : List ℕ × ℕ) (p : ℕ) → s.0 ≡ source.file.items → line_at source.lines.items p ≡ Some s.1 → source_by (Some source) p ≡ Some s
  site_of s p file line = ap (option_map (λ (line : ℕ). (source.file.items, line))) line ∙ ap (λ (file : List ℕ). Some (file, s.1)) (sym file)

  of_site : (s : List ℕ × ℕ) (p : ℕ) → source_by (Some source) p ≡ Some s → (s.0 ≡ source.file.items) × (line_at source.lines.items p ≡ Some s.1)
  of_site s p h =
      let r = map_some (λ (line : ℕ). (source.file.items, line)) (line_at source.lines.items p) s h in
      (sym (ap (λ (z : List ℕ × ℕ). z.0) r.2), r.1 ∙ ap Some (ap (λ (z : List ℕ × ℕ). z.1) r.2))

  lines_same : (shape : Shape) (s : List ℕ × ℕ) → ((s.0 ≡ source.file.items) × Contains (headed_lines source.lines.items shape) s.1) ↔ IsLineBy (Some source) shape s
  lines_same (Irreducible nodes) s = (
    λ h.
        let r = (mapped_contains (λ (line : Option ℕ). line) source.lines.items s.1).0 h.1 in
        let t = there_told source.lines.items s.1 (subst (λ (line : Option ℕ). Contains source.lines.items line) r.2 r.1) in
        (t.0, site_of s t.0 h.0 t.1),
    λ h.
        let r = of_site s h.0 h.1 in
        (r.0, (mapped_contains (λ (line : Option ℕ). line) source.lines.items s.1).1 (Some s.1, told_there source.lines.items h.0 s.1 r.1, refl)),
  )
  lines_same (Reducible places) s = (
    λ h. let r = (mapped_contains (line_at source.lines.items) places.items s.1).0 h.1 in (r.0, r.1, site_of s r.0 h.0 r.2),
    λ h. let r = of_site s h.0 h.2 in (r.0, (mapped_contains (line_at source.lines.items) places.items s.1).1 (h.0, h.1, r.1)),
  )

pub lines_added : {E : Type 0} (r : Result (Unit {0}) E) (old new : KnownSites) (source : MethodSource) (shape : Shape) (lines : List ℕ) (file : List ℕ) → file ≡ source.file.items
    → lines ≡ headed_lines source.lines.items shape → OnOk r (IsWith old.names new.names (λ x. x ≡ file)) → OnOk r (IsWith old.sites new.sites (λ s. (s.0 ≡ file) × Contains lines s.1))
    → OnOk r (AddsLines old new (Some source) shape)
lines_added (Ok _) old new source shape lines file file_is lines_are names sites = record {
  kept = λ x c. (names x).1 (inl c);
  files = λ x c. elim ((names x).0 c) [ inl before ↦ inl before | inr here ↦ inr (source, refl, here ∙ file_is) ];
  lines =
      let W : List ℕ → List ℕ → Type 0 = λ f ls. IsWith old.sites new.sites (λ s. (s.0 ≡ f) × Contains ls s.1) in
      let w = subst (W source.file.items) lines_are (subst (λ (f : List ℕ). W f lines) file_is sites) in
      with_case old.sites new.sites (λ s. (s.0 ≡ source.file.items) × Contains (headed_lines source.lines.items shape) s.1) (IsLineBy (Some source) shape) (lines_same source shape) w;
}
lines_added (Err _) old new source shape lines file file_is lines_are names sites = tt

-- no source has no lines
none_by : (shape : Shape) (s : List ℕ × ℕ) → IsLineBy None shape s → ⊥
none_by (Irreducible nodes) s h = none≢some s h.1
none_by (Reducible places) s h = none≢some s h.2

pub no_lines : (known : KnownSites) (shape : Shape) → AddsLines known known None shape
no_lines known shape = record {
  kept = λ x c. c;
  files = λ x c. inl c;
  lines = λ s. (λ c. inl c, λ h. elim h [ inl c ↦ c | inr bad ↦ absurd (none_by shape s bad) ]);
}

-- ---- places

pub no_places : (known : KnownSites) (name : List ℕ) (nodes : Vec ℕ Global) → AddsPlaces known known name (Irreducible nodes)
no_places known name nodes = record {
  names = λ x. (λ c. inl c, λ h. elim h [ inl c ↦ c | inr bad ↦ absurd bad ]);
  places = λ s. (λ c. inl c, λ h. elim h [ inl c ↦ c | inr bad ↦ absurd (nil_contains s.1 bad.1) ]);
}

pub places_added : {E : Type 0} (r : Result (Unit {0}) E) (old new : KnownSites) (name : List ℕ) (places : Vec ℕ Global) (numbers : List ℕ) → numbers ≡ places.items → OnOk r (IsWith old.names new.names (λ x. x ≡ name))
    → OnOk r (IsWith old.sites new.sites (λ s. (s.0 ≡ name) × Contains numbers s.1)) → OnOk r (AddsPlaces old new name (Reducible places))
places_added (Ok _) old new name places numbers are names sites = record {
  names = names;
  places = subst (λ (ps : List ℕ). IsWith old.sites new.sites (λ s. (s.0 ≡ name) × Contains ps s.1)) are sites;
}
places_added (Err _) old new name places numbers are names sites = tt
