use Rattle.std.proofs.Common.{ℕ, List, length, sym, ap, ◌∙◌, subst}
use Rattle.std.specs.Prelude.{IfOk}
use Rattle.std.specs.Global.{Vec}
use Rattle.std.specs.List.{AllByRecursion}
use Rattle.std.proofs.lemmas.List.{length-map}
use Rattle.image_file.specs.Linked.{LinkedContent, IsName, IsWord, IsFile}
use Rattle.image_file.specs.Linked as file
use Rattle.jopizer.proofs.ImageLemmas.{fits, made_same}
use Rattle.jopizer.proofs.image_files.write_image.Goals as goal

pub write_linked-requires : goal.write_linked-requires
write_linked-requires c =
    let f = fits c.args.linked.now c.main_name.ensures.linked in
    let long = length-map c.files.result.now (λ (v : Vec ℕ). v.items) in
    record {
      name = subst IsName (sym c.main_name.ensures.name) f.name;
      word_count = subst (λ (ws : List ℕ). IsWord (length ws)) (sym (c.words.ensures ∙ ap (λ l. l.words) c.layout.ensures.laid)) f.words;
      file_count = subst IsWord (ap (λ (fs : List (List ℕ)). length fs) (sym c.files.ensures.files) ∙ long) f.count;
      lengths = subst (AllByRecursion IsFile) (sym c.files.ensures.files) f.files;
    }

pub returns : goal.returns
returns c =
    subst (λ (image : LinkedContent). IfOk c.write_linked.result (λ bytes. file.IsLinkedFile bytes.items image))
    (made_same c.main_name.ensures.name (c.words.ensures ∙ ap (λ l. l.words) c.layout.ensures.laid) c.files.ensures.files) c.write_linked.ensures
