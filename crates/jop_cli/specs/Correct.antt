-- What the program promises: each statement is the contract of a function of `laws`, and follows from the contract of `jop`, which makes a call of each use
-- of it (`call_of` in Calls). Where each stands is said beside it. `docs/book NAME` prints what one must believe for a statement, in reading order: the step
-- of the bytecode (bytecode_model), what verified is (bytecode_typing), a cycle of the machine (jop_core), which state it stands for (machine_stands),
-- activations, walks that keep bounds (loop_nest, method_flow), what a bound says (activations), the program of classes (program_tables), the number and the
-- conditions (bound_rules), and of this crate Answer, Calls, Courses.
-- `link`: class files that nothing refuses are linked, and their image is put; what refuses them is answered, and is one; what is answered is so.
pub use Rattle.jop_cli.specs.promises.Link.{LinkingIsComplete, LinkRefusalsAreAnswered, LinkRefusalsAreOne, LinkedImagesAreShown}
-- Bytes are those of one linked image, or of one bare one, and not of both.
pub use Rattle.jop_cli.specs.promises.Images.{OneLinkedImage, OneBareImage, NoImageIsBoth}
-- `run`, `trace`: the run of an image is that of its program by the definition of the bytecode, on the machine, and the trace is of that run, which is one.
pub use Rattle.jop_cli.specs.promises.Run.{RunsAreTheBytecodes, TracesAreTheRuns, RunsAreOne, BareRunsAreTheBytecodes, BareTracesAreTheRuns}
-- From the answer alone: which image was run, and that the boundary to which the run came is one of it.
pub use Rattle.jop_cli.specs.promises.Runs.{RunsAreShown, RunsComeToBoundaries}
-- `check`: a certificate that meets the conditions holds, else the first that fails is answered; where it holds its bound is kept, and the line tells both.
pub use Rattle.jop_cli.specs.promises.Check.{CheckingIsComplete, FaultsAreAnswered, CheckedBoundsAreKept, HeldLinesAreOne}
-- `bound`: a certificate is put where nothing forbids a bound, else a cause that stands; its bound is kept; a name is that of one method.
pub use Rattle.jop_cli.specs.promises.Bound.{BoundingIsComplete, BoundRefusalsAreCaused, CausesAreAnswered, WrittenBoundsAreKept, BoundsAreKept}
pub use Rattle.jop_cli.specs.promises.Bound.{NamesTellMethods}
-- `bound --facts`, `check --facts`: the bound of a certificate is kept by all that keeps the facts, too; no facts suppose nothing.
pub use Rattle.jop_cli.specs.promises.Facts.{WrittenFactBoundsAreKept, CheckedFactBoundsAreKept, WrittenWithoutFacts, CheckedWithoutFacts}
-- `bound --all`, `bound --shapes`: each number in a line is kept, and the lines are the only answer.
pub use Rattle.jop_cli.specs.promises.AllBounds.{AllBoundsAreKept, ShapesAreKept, AllBoundsAreOne, ShapesAreOne}
-- A bound holds in each run of what is linked, that of a checked certificate in runs of the same bytes; methods that fit the cache are loaded once.
pub use Rattle.jop_cli.specs.promises.Activations.{BoundsHoldInRuns, CheckedRunsAreKept, MethodsAreLoadedOnce}
-- `report`: the lines add up to the bound, which is kept.
pub use Rattle.jop_cli.specs.promises.Report.{ReportsAddUp, ReportsAreKept}
-- `profile`: the lines are those of the run, and the bounds in them are kept by the numbers beside them.
pub use Rattle.jop_cli.specs.promises.Profile.{ProfilesAreComplete, ProfilesAreShown, ProfilesAreKept}
-- `plan`: what is linked with the executive has it; a plan is answered, is one, and its bounds are kept.
pub use Rattle.jop_cli.specs.promises.Plan.{ExecutivesAreThere, PlansAreAnswered, PlansAreKept, PlansAreOne}
-- `cycle`: it is a run of the executive; where there is a plan, slots keep their lengths, and none is late.
pub use Rattle.jop_cli.specs.promises.Cycle.{CyclesAreRuns, CyclesAreShown, SlotsAreKept, NoSlotIsLate}
-- `loops`: the loops count; each frame of each run keeps their numbers, ended or not; a bound asks for the other loops alone. The lines are the
-- only answer.
pub use Rattle.jop_cli.specs.promises.Loops.{WrittenLoopsCount, FoundLoopsAreKept, FurtherFoundLoopsAreKept, CountedLoopsAreKept, FurtherLoopsAreKept}
pub use Rattle.jop_cli.specs.promises.Loops.{LoopLinesAreOne, FurtherLinesAreOne}
-- `headers`: `bound` takes from the text just what is written, loops are bounded where no remark stands, and a bound asks for the lines alone. It is
-- the only answer.
pub use Rattle.jop_cli.specs.promises.Headers.{HeaderFilesAreTaken, HeaderFilesHaveBounds, NotedLoopsAreKept, HeadersAreShown, HeaderFilesAreOne}
-- `memory`: the words that it tells suffice, in each run of what is linked.
pub use Rattle.jop_cli.specs.promises.Memory.{NeedsSuffice, NeedsAreShown, NeedsSufficeInRuns, NeedsAreOne, NeedsAreNotRefused, NeedCausesAreTold}
-- `rtl`: what is put is the text of a circuit that is the machine with the image in it.
pub use Rattle.jop_cli.specs.promises.Circuits.{CircuitsAreShown}
-- What is asked of an image is answered: `check`, `bound`, `report`, `loops`, `headers`, `memory`, `rtl`.
pub use Rattle.jop_cli.specs.promises.Questions.{QuestionsAreAnswered}
-- `asm`: the words of a text are put, what refuses it is answered, and is one.
pub use Rattle.jop_cli.specs.promises.Asm.{AssemblingIsComplete, AsmRefusalsAreAnswered, AsmRefusalsAreOne, ListingsAreShown}
-- `work`: the line is put, and true.
pub use Rattle.jop_cli.specs.promises.Work.{WorkingIsComplete, WorkLinesAreTrue}
-- Words, files, images and machines are refused where something is wrong with them, the first of these that stands.
pub use Rattle.jop_cli.specs.promises.Refusals.{NoCommandIsRefused, LongFilesAreRefused, BadImagesAreRefused, UnlinkedImagesAreRefused}
pub use Rattle.jop_cli.specs.promises.Refusals.{DifferingImagesAreRefused, LongMethodsAreRefused, LongBareCodesAreRefused, SmallMemoriesAreRefused}
-- So are texts of bounds, of lengths and of lines of sources, each by its first line that is refused, or that says something of no loop.
pub use Rattle.jop_cli.specs.promises.Texts.{BadBoundsAreRefused, BadSizesAreRefused, BadLinesAreRefused, StrayLinesAreRefused}
