use Rattle.std.proofs.Common.{◌≡◌, ℕ, [], Contains, Some, Vec, Global, sym, ap, ◌∙◌}
use Rattle.std.specs.Option.{option_map}
use Rattle.source_places.specs.Methods.Sources.{file_of}
use Rattle.source_headers.proofs.FileLemmas.{with_same, file_same, no_number}
use Rattle.source_headers.proofs.gathering.add_file.Goals as goal

pub returns-in-Some-clause-names : goal.returns-in-Some-clause-names
returns-in-Some-clause-names c =
    let class = c.args.class.now in
    let file = c.deref.result.now in
    let is : Some file ≡ file_of class = ap Some c.deref.ensures.value ∙ sym (ap (option_map (λ (bytes : Vec ℕ Global). bytes.items)) c.in-Some.is) ∙ c.in_ok-file.ensures in
    with_same c.add.result c.args.files.now.names c.add.new.self.names (λ x. x ≡ file) (λ x. file_of class ≡ Some x) (file_same class file is) c.add.ensures.names

pub returns-in-Some-clause-sites : goal.returns-in-Some-clause-sites
returns-in-Some-clause-sites c =
    with_same c.add.result c.args.files.now.sites c.add.new.self.sites (λ s. (s.0 ≡ c.deref.result.now) × Contains {X = ℕ} [] s.1) (λ s. ⊥) (no_number c.deref.result.now) c.add.ensures.sites
