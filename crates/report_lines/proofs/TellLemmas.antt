-- The text by what is told of methods is that by the program.
use Rattle.std.proofs.Common.{◌≡◌, ℕ, zero, suc, ◌+◌, ◌<◌, ◌≤◌, ◌^◌, Bool, true, false, cond, List, [], ◌∷◌, ◌++◌, length, take, get_or, Option, Some, Contains, refl, sym, ◌∙◌, ap, ap₂, subst, arith, append_assoc}
use Rattle.std.specs.Prelude.{filter, flat_map, slice_get, codes, decimal, Result, Ok, Err, IfOk, OnOk}
use Rattle.std.specs.Option.{option_map_or}
use Rattle.std.proofs.lemmas.List.Elements.{Contains-get_or}
use Rattle.std.proofs.lemmas.List.Sums.{sum_by_push, sum_by-cons, sum_by-take-le}
use Rattle.lists.specs.Lists.{onto}
use Rattle.lists.proofs.FirstLemmas.{flat_map-more}
use Rattle.lists.proofs.Lemmas.{none≢some, some_same}
use Rattle.lists.specs.Members.{at_head, in_tail}
use Rattle.class_pool.specs.declared.class.ClassFile.{ClassFile}
use Rattle.source_places.specs.Methods.Sources.{source_at}
use Rattle.source_places.specs.Methods.Told.{source_by}
use Rattle.source_places.proofs.MethodsLemmas.BodyLemmas.{body_is}
use Rattle.program_tables.specs.Laws.{MethodsStandByNumber}
use Rattle.report_lines.specs.declared.key.Key.{Key}
use Rattle.report_lines.specs.declared.methods.MethodText.{MethodText}
use Rattle.bound_report.specs.declared.contents.rows.ReportRow.{ReportRow}
use Rattle.bound_report.specs.declared.contents.rows.ReportTotals.{ReportTotals}
use Rattle.bound_report.specs.Contents.Rows.{cycles_of}
use Rattle.report_lines.specs.Entries.{key_of, same_key, spot_by, rows_at, IsOfAll, AreEntries}
use Rattle.report_lines.specs.Joining.{AreJoined}
use Rattle.program_tables.specs.Resolved.{resolved}
use Rattle.name_laws.specs.Written.{written_name}
use Rattle.bound_report.specs.Contents.Rows.{AreOfCode}
use Rattle.report_lines.specs.Report.{IsReportText}
use Rattle.report_lines.specs.Text.{entry_line, entry_text, other_lines, report_lines, IsTextBy}
use Rattle.report_lines.specs.Told.{AreTextsOf, IsTextOf, name_told, source_told}
use Rattle.report_lines.proofs.SumLemmas.{of_all_cycles}

-- ---- sizes

part_case : (b : Bool) (r : ReportRow) (own rows : List ReportRow) → cycles_of own ≤ cycles_of rows → cycles_of (cond b (r ∷ own) own) ≤ cycles_of (r ∷ rows)
part_case true r own rows h = omega (arith, h, sum_by-cons (λ (x : ReportRow). x.cycles) r rows, sum_by-cons (λ (x : ReportRow). x.cycles) r own)
part_case false r own rows h = omega (arith, h, sum_by-cons (λ (x : ReportRow). x.cycles) r rows)

part_sum : (test : ReportRow → Bool) (rows : List ReportRow) → cycles_of (filter test rows) ≤ cycles_of rows
part_sum test [] = omega arith
part_sum test (r ∷ rows) = part_case (test r) r (filter test rows) rows (part_sum test rows)

-- the cycles of an entry are no more than those of the rows
pub entry_small : (source : ℕ → ℕ → Option (List ℕ × ℕ)) (rows : List ReportRow) (e : ReportRow) → IsOfAll (rows_at source (key_of source e) rows) e → e.cycles ≤ cycles_of rows
entry_small source rows e h =
    omega (arith, of_all_cycles (rows_at source (key_of source e) rows) e h, part_sum (λ (r : ReportRow). same_key (key_of source e) (key_of source r)) rows)

pub sums_fit : (source : ℕ → ℕ → Option (List ℕ × ℕ)) (rows es : List ReportRow) (i : ℕ) (r : ReportRow) → AreJoined source (take i rows) es → take (i + 1) rows ≡ take i rows ++ r ∷ []
    → cycles_of rows < 2 ^ 64 → (e : ReportRow) → Contains es e → e.cycles + r.cycles < 2 ^ 128
sums_fit source rows es i r h more small e c =
    let part = entry_small source (take i rows) e (h.each e c) in
    let whole = sum_by-take-le (λ (x : ReportRow). x.cycles) rows (i + 1) in
    let with_row = ap cycles_of more ∙ sum_by_push (λ (x : ReportRow). x.cycles) (take i rows) r in
    let wide : 2 ^ 64 ≤ 2 ^ 128 = omega arith in
    omega (arith, part, whole, with_row, small, wide)

-- ---- an entry is of the place of a row

abbrev IsOfRow : List ReportRow → ReportRow → Type 0
IsOfRow rows e = (q : ReportRow) × Contains rows q × (e.method ≡ q.method) × (e.place ≡ q.place)

row_case : (b : Bool) (q : ReportRow) (own rows : List ReportRow) (e : ReportRow) → (IsOfAll own e → IsOfRow rows e) → IsOfAll (cond b (q ∷ own) own) e → IsOfRow (q ∷ rows) e
row_case true q own rows e h k = (q, at_head q rows, ap (λ (x : ReportRow). x.method) k, ap (λ (x : ReportRow). x.place) k)
row_case false q own rows e h k = let r = h k in (r.0, in_tail q r.0 rows r.1, r.2, r.3)

of_row : (test : ReportRow → Bool) (rows : List ReportRow) (e : ReportRow) → IsOfAll (filter test rows) e → IsOfRow rows e
of_row test [] e h = absurd h
of_row test (q ∷ qs) e h = row_case (test q) q (filter test qs) qs e (of_row test qs e) h

pub entry_row : (source : ℕ → ℕ → Option (List ℕ × ℕ)) (rows es : List ReportRow) → AreEntries source rows es → (e : ReportRow) → Contains es e → (q : ReportRow) × Contains rows q × (e.method ≡ q.method) × (e.place ≡ q.place)
entry_row source rows es h e c = of_row (λ (r : ReportRow). same_key (key_of source e) (key_of source r)) rows e (h.each e c)

filter_same : (f g : ReportRow → Bool) (rows : List ReportRow) → ((r : ReportRow) → Contains rows r → f r ≡ g r) → filter f rows ≡ filter g rows
filter_same f g [] same = refl
filter_same f g (r ∷ rows) same =
    ap₂ (λ (b : Bool) (own : List ReportRow). cond b (r ∷ own) own) (same r (at_head r rows)) (filter_same f g rows (λ q c. same q (in_tail r q rows c)))

flat_map_same : (f g : ReportRow → List ℕ) (es : List ReportRow) → ((e : ReportRow) → Contains es e → f e ≡ g e) → flat_map f es ≡ flat_map g es
flat_map_same f g [] same = refl
flat_map_same f g (e ∷ es) same = ap₂ (λ (a b : List ℕ). a ++ b) (same e (at_head e es)) (flat_map_same f g es (λ x c. same x (in_tail e x es c)))

-- sources and names that are the same of the rows make the same text of them
module _ (s t : ℕ → ℕ → Option (List ℕ × ℕ)) (n m : ℕ → List ℕ) (rows : List ReportRow) (sources : (r : ReportRow) → Contains rows r → s r.method r.place ≡ t r.method r.place)
    (names : (r : ReportRow) → Contains rows r → n r.method ≡ m r.method) where
  keys_same : (r : ReportRow) → s r.method r.place ≡ t r.method r.place → key_of s r ≡ key_of t r
  keys_same r same = ap (λ (o : Option (List ℕ × ℕ)). let k : Key = record { method = r.method; spot = spot_by r.place o } in k) same

  module _ (es : List ReportRow) (h : AreEntries s rows es) where
    source_same : (e : ReportRow) → Contains es e → s e.method e.place ≡ t e.method e.place
    source_same e c =
        let q = entry_row s rows es h e c in
        ap₂ s q.2 q.3 ∙ sources q.0 q.1 ∙ sym (ap₂ t q.2 q.3)

    name_same : (e : ReportRow) → Contains es e → n e.method ≡ m e.method
    name_same e c = let q = entry_row s rows es h e c in ap n q.2 ∙ names q.0 q.1 ∙ sym (ap m q.2)

    entry_key : (e : ReportRow) → Contains es e → key_of s e ≡ key_of t e
    entry_key e c = keys_same e (source_same e c)

    own_same : (e : ReportRow) → Contains es e → rows_at s (key_of s e) rows ≡ rows_at t (key_of t e) rows
    own_same e c =
        ap (λ (k : Key). rows_at s k rows) (entry_key e c)
        ∙ filter_same (λ r. same_key (key_of t e) (key_of s r)) (λ r. same_key (key_of t e) (key_of t r)) rows (λ r cr. ap (same_key (key_of t e)) (keys_same r (sources r cr)))

    entries_same : AreEntries t rows es
    entries_same = record {
      apart = λ i j d lt below e.
          let at_i = entry_key (get_or es i d) (Contains-get_or es i d (omega arith)) in
          let at_j = entry_key (get_or es j d) (Contains-get_or es j d below) in
          h.apart i j d lt below (at_i ∙ e ∙ sym at_j);
      whole = λ r c. let e = h.whole r c in (e.0, e.1, sym (entry_key e.0 e.1) ∙ e.2 ∙ keys_same r (sources r c));
      each = λ e c. subst (λ (own : List ReportRow). IsOfAll own e) (own_same e c) (h.each e c);
      ordered = h.ordered;
    }

    lines_same : (totals : ReportTotals) → report_lines s n totals es ≡ report_lines t m totals es
    lines_same totals =
        let same = flat_map_same (entry_line s n totals.bound) (entry_line t m totals.bound) es
        (λ e c. ap₂ (λ (o : Option (List ℕ × ℕ)) (name : List ℕ). entry_text totals.bound name o e) (source_same e c) (name_same e c)) in
        ap (λ (lines : List ℕ). codes "bound=" ++ (decimal totals.bound ++ (codes "\n" ++ (lines ++ other_lines totals)))) same

  pub text_same : (totals : ReportTotals) (text : List ℕ) → IsTextBy s n rows totals text → IsTextBy t m rows totals text
  text_same totals text h = record { entries = h.entries; are = entries_same h.entries h.are; text_is = h.text_is ∙ lines_same h.entries h.are totals }

-- ---- what is told

got : {X : Type 0} (xs : List X) (i : ℕ) → i < length xs → (x : X) × (slice_get xs i ≡ Some x)
got [] i lt = absurd (omega arith)
got (x ∷ xs) zero lt = (x, refl)
got (x ∷ xs) (suc i) lt = got xs i (omega arith)

pub told_source : (xs : List MethodText) (m : ℕ) (x : MethodText) → slice_get xs m ≡ Some x → (p : ℕ) → source_told xs m p ≡ source_by x.source p
told_source xs m x at p = ap (λ (o : Option MethodText). onto o (λ y. source_by y.source p)) at

pub told_name : (xs : List MethodText) (m : ℕ) (x : MethodText) → slice_get xs m ≡ Some x → name_told xs m ≡ x.name.items
told_name xs m x at = ap (λ (o : Option MethodText). option_map_or (λ (y : MethodText). y.name.items) o []) at

module _ (by_number : MethodsStandByNumber) (cs : List ClassFile) (xs : List MethodText) (rows : List ReportRow) (told : AreTextsOf cs xs) (known : AreOfCode (resolved cs) rows) where
  pub row_known : (r : ReportRow) → Contains rows r → r.method < length xs
  row_known r c = let b = known r c in omega (arith, (body_is by_number cs r.method b.0 b.1).numbered, told.long)

  source_is : (r : ReportRow) → Contains rows r → source_told xs r.method r.place ≡ source_at cs r.method r.place
  source_is r c =
      let x = got xs r.method (row_known r c) in
      let b = known r c in
      let body = body_is by_number cs r.method b.0 b.1 in
      told_source xs r.method x.0 x.1 r.place ∙ (told.each r.method x.0 x.1).source.lines body.code body.code_is r.place (omega (arith, b.2, ap length body.same))

  name_is : (r : ReportRow) → Contains rows r → name_told xs r.method ≡ written_name cs r.method
  name_is r c = let x = got xs r.method (row_known r c) in told_name xs r.method x.0 x.1 ∙ (told.each r.method x.0 x.1).name

  -- the text by what is told is the program's
  pub report_is : (totals : ReportTotals) (text : List ℕ) → IsTextBy (source_told xs) (name_told xs) rows totals text → IsReportText cs rows totals text
  report_is totals text h = text_same (source_told xs) (source_at cs) (name_told xs) (written_name cs) rows source_is name_is totals text h

-- ---- where a call was the last

pub if_ok : {T E : Type 0} (r : Result T E) (P Q : T → Type 0) → ((x : T) → P x → Q x) → IfOk r P → IfOk r Q
if_ok (Ok x) P Q f h = f x h
if_ok (Err e) P Q f h = tt

pub on_ok : {T E : Type 0} (r : Result T E) (P Q : Type 0) → (P → Q) → OnOk r P → OnOk r Q
on_ok (Ok x) P Q f h = f h
on_ok (Err e) P Q f h = tt

-- ---- one more

each_more : {X : Type 0} (P : ℕ → X → Type 0) (xs : List X) (y : X) → ((m : ℕ) (x : X) → slice_get xs m ≡ Some x → P m x) → P (length xs) y → (m : ℕ) (x : X) → slice_get (xs ++ y ∷ []) m ≡ Some x → P m x
each_more P [] y h last zero x at = subst (P 0) (some_same y x at) last
each_more P [] y h last (suc m) x at = absurd (none≢some x at)
each_more P (z ∷ zs) y h last zero x at = h 0 x at
each_more P (z ∷ zs) y h last (suc m) x at = each_more (λ k. P (suc k)) zs y (λ k w. h (suc k) w) last m x at

-- a method more
pub method_more : (cs : List ClassFile) (xs new : List MethodText) (y : MethodText) (n : ℕ) → length xs ≡ n → ((m : ℕ) (x : MethodText) → slice_get xs m ≡ Some x → IsTextOf cs m x) → IsTextOf cs n y
    → new ≡ xs ++ y ∷ [] → (m : ℕ) (x : MethodText) → slice_get new m ≡ Some x → IsTextOf cs m x
method_more cs xs new y n long each is put m x at =
    each_more (IsTextOf cs) xs y each (subst (λ (k : ℕ). IsTextOf cs k y) (sym long) is) m x (ap (λ (zs : List MethodText). slice_get zs m) (sym put) ∙ at)

-- the lines of an entry more
pub line_more : (xs : List MethodText) (bound : ℕ) (es : List ReportRow) (i : ℕ) (e : ReportRow) (x : MethodText) (old text new : List ℕ) → take (i + 1) es ≡ take i es ++ e ∷ [] → slice_get xs e.method ≡ Some x
    → text ≡ old ++ flat_map (entry_line (source_told xs) (name_told xs) bound) (take i es) → new ≡ text ++ entry_text bound x.name.items (source_by x.source e.place) e
    → new ≡ old ++ flat_map (entry_line (source_told xs) (name_told xs) bound) (take (i + 1) es)
line_more xs bound es i e x old text new more at before put =
    let f = entry_line (source_told xs) (name_told xs) bound in
    let line : entry_text bound x.name.items (source_by x.source e.place) e ≡ f e =
    ap₂ (λ (o : Option (List ℕ × ℕ)) (name : List ℕ). entry_text bound name o e) (sym (told_source xs e.method x at e.place)) (sym (told_name xs e.method x at)) in
    put ∙ ap₂ (λ (a b : List ℕ). a ++ b) before line ∙ append_assoc old (flat_map f (take i es)) (f e)
    ∙ ap (λ (b : List ℕ). old ++ b) (sym (flat_map-more f (take i es) e) ∙ ap (flat_map f) (sym more))

-- ---- a text from its parts

pub text_is_all : (bound lines others text first second third : List ℕ) → text ≡ [] → first ≡ text ++ (codes "bound=" ++ (bound ++ codes "\n")) → second ≡ first ++ lines → third ≡ second ++ others
    → third ≡ codes "bound=" ++ (bound ++ (codes "\n" ++ (lines ++ others)))
text_is_all bound lines others text first second third none one two three =
    three ∙ ap (λ (t : List ℕ). t ++ others) (two ∙ ap (λ (t : List ℕ). t ++ lines) (one ∙ ap (λ (t : List ℕ). t ++ (codes "bound=" ++ (bound ++ codes "\n"))) none))
    ∙ regrouped (codes "bound=") bound (codes "\n") lines others
  where
    regrouped : (a b c d e : List ℕ) → ((a ++ (b ++ c)) ++ d) ++ e ≡ a ++ (b ++ (c ++ (d ++ e)))
    regrouped a b c d e = simp append_assoc

pub others_are : (a b c one two three old first second third : List ℕ) → first ≡ old ++ (one ++ a) → second ≡ first ++ (two ++ b) → third ≡ second ++ (three ++ c)
    → third ≡ old ++ (one ++ (a ++ (two ++ (b ++ (three ++ c)))))
others_are a b c one two three old first second third x y z =
    z ∙ ap (λ (t : List ℕ). t ++ (three ++ c)) (y ∙ ap (λ (t : List ℕ). t ++ (two ++ b)) x) ∙ regrouped old one a two b three c
  where
    regrouped : (o p q r s t u : List ℕ) → ((o ++ (p ++ q)) ++ (r ++ s)) ++ (t ++ u) ≡ o ++ (p ++ (q ++ (r ++ (s ++ (t ++ u)))))
    regrouped o p q r s t u = simp append_assoc

-- the text of entries, by the list as it is seen
pub text_of_entries : (source : ℕ → ℕ → Option (List ℕ × ℕ)) (name : ℕ → List ℕ) (rows entries seen : List ReportRow) (t : ReportTotals) (text : List ℕ) → seen ≡ entries → AreEntries source rows entries
    → text ≡ report_lines source name t seen → IsTextBy source name rows t text
text_of_entries source name rows entries seen t text same are is = record { entries = entries; are = are; text_is = is ∙ ap (report_lines source name t) same }
