use Rattle.std.proofs.Common.{arith, ◌⊎◌, ◌<◌, inl, inr, sym, ap, ℕ, subst}
use Rattle.std.specs.Prelude.{Err}
use Rattle.std.proofs.lemmas.Result.{err_from_is_err_and}
use Rattle.class_file.specs.declared.fault.ClassFault.TheVariants as answers
use Rattle.class_file.specs.Reading.{header_in}
use Rattle.class_file.specs.Grammar.{IsOtherVersion}
use Rattle.class_file.proofs.ClassLaws.{class_found, class_header, other_header, class_behind, other_behind, is_other, no_header, no_version, version_is, is_bad, memory_is, memory_not_bad, not_other, is_no_other}
use Rattle.class_file.proofs.reader.read_class.Goals as goal
use Rattle.class_file.proofs.reader.read_class.Goals.{then-major-lt-OLDEST-via-then-major-lt-OLDEST, then-major-lt-OLDEST-via-else-major-lt-OLDEST+then-major-gt-NEWEST}

pub returns-in_err-minor-clause-only : goal.returns-in_err-minor-clause-only
returns-in_err-minor-clause-only c = λ other is. absurd (no_header c.in_err-minor.field-0.0 (header_in c.args.bytes.now) _ c.in_err-minor.ensures.bad c.in_err-minor.ensures.read (class_header c.args.bytes.now other is))

pub returns-in_err-minor-clause-version : goal.returns-in_err-minor-clause-version
returns-in_err-minor-clause-version c =
    let p = err_from_is_err_and c.from_residual.result c.from_residual.ensures.1 in
    λ major. (
      rw (p.1, p.2) (λ e. absurd (no_version c.in_err-minor.field-0.0 major e)),
      λ is. absurd (no_header c.in_err-minor.field-0.0 (header_in c.args.bytes.now) _ c.in_err-minor.ensures.bad c.in_err-minor.ensures.read (other_header c.args.bytes.now major is)),
    )

pub returns-in_err-minor-clause-bad : goal.returns-in_err-minor-clause-bad
returns-in_err-minor-clause-bad c = λ e. (
  λ other is. no_header c.in_err-minor.field-0.0 (header_in c.args.bytes.now) _ c.in_err-minor.ensures.bad c.in_err-minor.ensures.read (class_header c.args.bytes.now other is),
  λ major is. no_header c.in_err-minor.field-0.0 (header_in c.args.bytes.now) _ c.in_err-minor.ensures.bad c.in_err-minor.ensures.read (other_header c.args.bytes.now major is),
)

pub returns-then-major-lt-OLDEST-clause-only : goal.returns-then-major-lt-OLDEST-clause-only
returns-then-major-lt-OLDEST-clause-only c =
    let other : (c.in_ok-minor.major < 50) ⊎ (52 < c.in_ok-minor.major) =
    elim c.then-major-lt-OLDEST.branch [
      | then-major-lt-OLDEST-via-then-major-lt-OLDEST w ↦ inl w.if-major-lt-OLDEST.true
      | then-major-lt-OLDEST-via-else-major-lt-OLDEST+then-major-gt-NEWEST w ↦ inr w.if-major-gt-NEWEST.true
    ] in
    λ class is. absurd (is_no_other c.args.bytes.now c.in_ok-minor.minor c.in_ok-minor.major c.in_ok-minor.rest.now class c.in_ok-minor.ensures.read is other)

pub returns-then-major-lt-OLDEST-clause-version : goal.returns-then-major-lt-OLDEST-clause-version
returns-then-major-lt-OLDEST-clause-version c =
    let other : (c.in_ok-minor.major < 50) ⊎ (52 < c.in_ok-minor.major) =
    elim c.then-major-lt-OLDEST.branch [
      | then-major-lt-OLDEST-via-then-major-lt-OLDEST w ↦ inl w.if-major-lt-OLDEST.true
      | then-major-lt-OLDEST-via-else-major-lt-OLDEST+then-major-gt-NEWEST w ↦ inr w.if-major-gt-NEWEST.true
    ] in
    let here : IsOtherVersion c.args.bytes.now c.in_ok-minor.major = is_other c.args.bytes.now c.in_ok-minor.minor c.in_ok-minor.major c.in_ok-minor.rest.now (λ i. omega (arith, c.type_inv.bytes i)) c.in_ok-minor.ensures.read other in
    λ major. (
      λ e. subst (IsOtherVersion c.args.bytes.now) (version_is c.in_ok-minor.major major e) here,
      λ is. ap (λ (m : ℕ). Err (answers.Version m)) (sym (other_behind c.args.bytes.now c.in_ok-minor.minor c.in_ok-minor.major c.in_ok-minor.rest.now major c.in_ok-minor.ensures.read is).0),
    )

pub returns-in_err-class_behind-clause-only : goal.returns-in_err-class_behind-clause-only
returns-in_err-class_behind-clause-only c =
    let p = err_from_is_err_and c.from_residual-in_err-class_behind.result c.from_residual-in_err-class_behind.ensures.1 in
    λ other is.
    let h = class_behind c.args.bytes.now c.in_ok-minor.minor c.in_ok-minor.major c.in_ok-minor.rest.now other c.in_ok-minor.ensures.read is in
    rw (p.1, p.2) (memory_is c.in_err-class_behind.field-0.0 (c.in_err-class_behind.ensures.only other h.behind))

pub returns-in_err-class_behind-clause-version : goal.returns-in_err-class_behind-clause-version
returns-in_err-class_behind-clause-version c =
    let p = err_from_is_err_and c.from_residual-in_err-class_behind.result c.from_residual-in_err-class_behind.ensures.1 in
    λ major. (
      rw (p.1, p.2) (λ e. absurd (no_version c.in_err-class_behind.field-0.0 major e)),
      λ is. let o = other_behind c.args.bytes.now c.in_ok-minor.minor c.in_ok-minor.major c.in_ok-minor.rest.now major c.in_ok-minor.ensures.read is in
          absurd (not_other c.in_ok-minor.major c.if-major-lt-OLDEST.false c.if-major-gt-NEWEST.false major o.0 o.1),
    )

pub returns-in_err-class_behind-clause-bad : goal.returns-in_err-class_behind-clause-bad
returns-in_err-class_behind-clause-bad c =
    let p = err_from_is_err_and c.from_residual-in_err-class_behind.result c.from_residual-in_err-class_behind.ensures.1 in
    rw (p.1, p.2) (λ e. (
      λ other is.
          let h = class_behind c.args.bytes.now c.in_ok-minor.minor c.in_ok-minor.major c.in_ok-minor.rest.now other c.in_ok-minor.ensures.read is in
          memory_not_bad c.in_err-class_behind.field-0.0 (c.in_err-class_behind.ensures.only other h.behind) (is_bad c.in_err-class_behind.field-0.0 e),
      λ major is. let o = other_behind c.args.bytes.now c.in_ok-minor.minor c.in_ok-minor.major c.in_ok-minor.rest.now major c.in_ok-minor.ensures.read is in
          not_other c.in_ok-minor.major c.if-major-lt-OLDEST.false c.if-major-gt-NEWEST.false major o.0 o.1,
    ))

pub returns-clause-found : goal.returns-clause-found
returns-clause-found c = class_found c.args.bytes.now c.in_ok-minor.minor c.in_ok-minor.major c.in_ok-minor.rest.now c.in_ok-class_behind.field-0 (λ i. omega (arith, c.type_inv.bytes i)) c.in_ok-minor.ensures.read c.if-major-lt-OLDEST.false c.if-major-gt-NEWEST.false c.in_ok-class_behind.ensures.found

pub returns-clause-only : goal.returns-clause-only
returns-clause-only c = λ other is.
    let h = class_behind c.args.bytes.now c.in_ok-minor.minor c.in_ok-minor.major c.in_ok-minor.rest.now other c.in_ok-minor.ensures.read is in
    c.in_ok-class_behind.ensures.only other h.behind

pub returns-clause-version : goal.returns-clause-version
returns-clause-version c = λ major. (
  λ e. absurd (cc),
  λ is. let o = other_behind c.args.bytes.now c.in_ok-minor.minor c.in_ok-minor.major c.in_ok-minor.rest.now major c.in_ok-minor.ensures.read is in
      absurd (not_other c.in_ok-minor.major c.if-major-lt-OLDEST.false c.if-major-gt-NEWEST.false major o.0 o.1),
)
