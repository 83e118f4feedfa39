use Rattle.std.proofs.Common.{rules, ◌≡◌, ◌∙◌, true, false, sym, ap, subst}
use Rattle.std.specs.List.{list_any}
use Rattle.std.proofs.lemmas.Bool.{both_ways, not-true, not-false}
use Rattle.certificates.specs.declared.cert.SectionSort.{SectionSort}
use Rattle.certificates.proofs.Sorts.{same_sort, inserted}
use Rattle.certificates.proofs.Next.{not_of_version, not_new, starts}
use Rattle.certificates.proofs.reader.begun.Begun.start.Goals as goal

pub returns-then-not-has_kind : goal.returns-then-not-has_kind
returns-then-not-has_kind c = not_of_version c.args.self c.args.kind c.args.method (λ h. both_ways c.has_kind.result (search rules) (c.has_kind.ensures.1 h))

pub returns-then-not-branch : goal.returns-then-not-branch
returns-then-not-branch c =
    not_new c.args.self c.args.kind c.args.method c.requires.kept
    (subst (λ (s : SectionSort). list_any (same_sort s) c.args.self.sorts.keys ≡ true) c.sort.ensures
    (not-false (list_any (same_sort c.sort.result) c.args.self.sorts.keys) (sym c.in_ok-insert.ensures.added ∙ (search rules))))

pub returns : goal.returns
returns c =
    let new : list_any (same_sort c.sort.result) c.args.self.sorts.keys ≡ false = not-true (list_any (same_sort c.sort.result) c.args.self.sorts.keys) (sym c.in_ok-insert.ensures.added ∙ (search rules)) in
    starts c.args.self _ c.args.kind c.args.method c.requires.kept c.requires.draft (c.has_kind.ensures.0 (search rules)) (search rules)
    (subst (λ (s : SectionSort). list_any (same_sort s) c.args.self.sorts.keys ≡ false) c.sort.ensures new)
    c.in_ok-close.ensures.version c.in_ok-close.ensures.root c.in_ok-close.ensures.closed (search rules)
    (ap (λ s. s.keys) c.in_ok-close.ensures.sorts ∙ (inserted c.args.self.sorts.keys c.insert.new.self.keys c.sort.result c.in_ok-insert.ensures.keys new ∙ (search rules)))
