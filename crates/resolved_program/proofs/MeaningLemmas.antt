-- What a member means that an entry names, by what is found and what is said of it.
use Rattle.std.proofs.Common.{◌≡◌, ℕ, Bool, List, Option, Some, None, sym, ap, ◌∙◌}
use Rattle.std.specs.Prelude.{IfSome, IsTrue, is_some, slice_get}
use Rattle.class_pool.specs.declared.class.ClassFile.{ClassFile}
use Rattle.class_pool.specs.declared.entry.Entry.TheVariants as entries
use Rattle.bytecode_model.specs.Lists.{onto}
use Rattle.bytecode_model.specs.Program.{Operand}
use Rattle.lists.proofs.Lemmas.{some_same, onto_some}
use Rattle.class_lookup.specs.Hierarchy.{IsAcyclic}
use Rattle.class_lookup.specs.Laws.{FoundMethods}
use Rattle.class_lookup.specs.Lookup.{Place, field_at, method_at, find_method}
use Rattle.class_lookup.specs.Selection.{special}
use Rattle.program_tables.specs.Entries.{meaning_of, found_from, field_found, method_found}
use Rattle.program_tables.specs.Instructions.{signature_in}
use Rattle.program_tables.specs.Operands.{class_named, field_operand, method_operand, is_guarded_member}
use Rattle.program_tables.proofs.EntryLemmas.{made, made_same, field_meant, field_means, method_meant, method_means}

pub field_told : (cs : List ClassFile) (current : ℕ) (c : ClassFile) (owner member index named : ℕ) (place : Place) (o : Option (ℕ × Place)) (u : Operand) (g : Bool)
    → o ≡ Some (named, place) → o ≡ field_found cs c owner member → u ≡ field_operand cs named place → g ≡ is_guarded_member cs current (Some place) (field_at cs place)
    → made u u g ≡ meaning_of cs current c index (Some (entries.Field owner member))
field_told cs current c owner member index named place o u g is found hu hg =
    let same : field_meant cs current (Some (named, place)) ≡ field_meant cs current (field_found cs c owner member) = ap (field_meant cs current) (sym is ∙ found) in
    made_same u (field_operand cs named place) u (field_operand cs named place) g (is_guarded_member cs current (Some place) (field_at cs place)) hu hu hg
    ∙ (same ∙ field_means cs current c owner member index)

pub method_told : (cs : List ClassFile) (current : ℕ) (c : ClassFile) (owner member index named : ℕ) (place : Place) (o : Option (ℕ × Place)) (u s : Operand) (t : Option Place) (g : Bool)
    → o ≡ Some (named, place) → o ≡ method_found cs c owner member → u ≡ method_operand cs named (Some place) → t ≡ special cs current named place → s ≡ method_operand cs named t
    → g ≡ is_guarded_member cs current (Some place) (method_at cs place) → made u s g ≡ meaning_of cs current c index (Some (entries.Method owner member))
method_told cs current c owner member index named place o u s t g is found hu ht hs hg =
    let same : method_meant cs current (Some (named, place)) ≡ method_meant cs current (method_found cs c owner member) = ap (method_meant cs current) (sym is ∙ found) in
    made_same u (method_operand cs named (Some place)) s (method_operand cs named (special cs current named place)) g (is_guarded_member cs current (Some place) (method_at cs place))
    hu (hs ∙ ap (method_operand cs named) ht) hg
    ∙ (same ∙ method_means cs current c owner member index)

-- ---- what is found is there

found_case : FoundMethods → (cs : List ClassFile) → IsAcyclic cs → (c : ClassFile) (owner member : ℕ) (found : ℕ × Place) → method_found cs c owner member ≡ Some found → IsTrue (is_some (method_at cs found.1))
found_case law cs acyclic c owner member found h =
    let pair : ℕ → Place → ℕ × Place = λ n p. (n, p) in
    let s = onto_some (signature_in c.pool member) (λ s. found_from (λ n. find_method cs n s) cs c owner) found h in
    let n = onto_some (class_named cs c owner) (λ n. onto (find_method cs n s.0) (λ p. Some (pair n p))) found s.2 in
    let p = onto_some (find_method cs n.0 s.0) (λ p. Some (pair n.0 p)) found n.2 in
    let f = law cs acyclic n.0 s.0 p.0 p.1 in
    let at : method_at cs p.0 ≡ Some f.member = ap (λ o. onto o (λ k. slice_get k.methods p.0.1)) f.class ∙ f.there in
    ap (λ (q : ℕ × Place). is_some (method_at cs q.1)) (sym (some_same (pair n.0 p.0) found p.2)) ∙ ap is_some at

pub found_there : FoundMethods → (cs : List ClassFile) → IsAcyclic cs → (c : ClassFile) (owner member : ℕ) (o : Option (ℕ × Place)) → o ≡ method_found cs c owner member → IfSome o (λ found. IsTrue (is_some (method_at cs found.1)))
found_there law cs acyclic c owner member None h = tt
found_there law cs acyclic c owner member (Some found) h = found_case law cs acyclic c owner member found (sym h)
