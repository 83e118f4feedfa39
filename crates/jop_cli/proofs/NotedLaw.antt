-- By the text of headers a bound of a method asks for what the lines say alone: the other loops count to their bounds.
use Rattle.std.proofs.Common.{ℕ, List, sym, subst, arith, inl, inr}
use Rattle.class_pool.specs.declared.class.ClassFile.{ClassFile}
use Rattle.program_tables.specs.Resolved.{resolved}
use Rattle.program_tables.specs.Resolving.{IsResolved}
use Rattle.method_flow.specs.Keeping.{BoundOf, WalkKeeps}
use Rattle.bound_texts.specs.Loops.Bounds.{LoopBound}
use Rattle.bound_texts.specs.Loops.Grammar.{IsRead}
use Rattle.loop_rules.specs.Sites.{int_at}
use Rattle.activation_laws.specs.Counted.Others.{CountsWithin, KeepsOthers, WalkKeepsBut}
use Rattle.activation_laws.specs.Counted.Found.{FoundLoopsCount}
use Rattle.source_headers.specs.Files.{IsHeaderFile}
use Rattle.source_headers.specs.Laws.{line_bound, place_bound}
use Rattle.source_headers.specs.Whole.{HeaderFilesAreRead, FilesBoundHeaders, FileBoundsAreFoundOrSaid}
use Rattle.analysis_commands.specs.Analysis.{bounds_of}
use Rattle.jop_cli.specs.promises.Headers.{HeaderFilesAreTaken, NotedLoopsAreKept}
use Rattle.jop_cli.specs.promises.Loops.{CountedLoopsAreKept}

pub header_files_are_taken : HeaderFilesAreRead → FilesBoundHeaders → HeaderFilesAreTaken
header_files_are_taken files bound cs lines text r h =
    let g = files cs lines text r h in
    (g.bounds, g.read, bound cs lines text r h g.bounds g.read)

module _ (count : FoundLoopsCount) (sources : FileBoundsAreFoundOrSaid) (cs : List ClassFile) (lines text : List ℕ) (r : IsResolved cs) (h : IsHeaderFile cs lines text) (bounds : List LoopBound)
    (read : IsRead text bounds) where
  -- a walk that keeps what the lines say keeps the bounds of the loops that don't count
  others_kept : (m : ℕ) (ns : List ℕ) → WalkKeeps (resolved cs) (line_bound cs h.notes) m ns → WalkKeeps (resolved cs) (place_bound cs h.notes) m ns
      → WalkKeepsBut (resolved cs) (CountsWithin (resolved cs) (int_at h.constants) (bounds_of cs bounds)) (bounds_of cs bounds) m ns
  others_kept m ns of_lines of_places g live p bound is not_counts =
      elim (sources cs lines text r h bounds read m p bound is) [
        | inl found ↦
            let counts = count (resolved cs) (int_at h.constants) (record { method = m; place = p; bound = bound }) found in
            absurd (not_counts (record { bound = bound; given = is; n = bound; counts = counts; within = omega arith }))
        | inr said ↦ elim said [ inl line ↦ of_lines g live p bound line | inr place ↦ of_places g live p bound place ]
      ]

pub noted_loops_are_kept : FoundLoopsCount → FileBoundsAreFoundOrSaid → CountedLoopsAreKept → NotedLoopsAreKept
noted_loops_are_kept count sources kept x lines text h bounds resolved read same of_lines of_places =
    let cs = x.linked.classes in
    kept x h.constants resolved h.are (subst (λ (b : BoundOf). KeepsOthers (int_at h.constants) b x.ended) (sym same) (record {
      own = others_kept count sources cs lines text resolved h bounds read x.method _ of_lines.own of_places.own;
      inner = λ m' a' b' h' among. others_kept count sources cs lines text resolved h bounds read m' _ (of_lines.inner m' a' b' h' among) (of_places.inner m' a' b' h' among);
    }))
