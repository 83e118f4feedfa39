-- What `bound --shapes` finds of a method: its bound in each shape of the method cache whose numbers are powers of two.
use Rattle.std.specs.Prelude.{◌≡◌, ℕ, ◌≤◌, List, [], ◌∷◌, ◌++◌, map, flat_map, Option, Some, None, codes, decimal}
use Rattle.std.specs.List.{AllZip}
use Rattle.class_pool.specs.declared.class.ClassFile.{ClassFile}
use Rattle.command_line.specs.declared.command.Settings.{Settings}
use Rattle.certificates.specs.CertLines.{bound_text}
use Rattle.answer_lines.specs.declared.bound.BoundCause.{BoundCause}
use Rattle.answer_lines.specs.declared.bound.BoundCause.TheVariants as causes
use Rattle.answer_lines.specs.declared.analysis.AnalysisFault.{AnalysisFault}
use Rattle.answer_lines.specs.declared.analysis.AnalysisFault.TheVariants as faults
use Rattle.analysis_commands.specs.declared.bound.NotBounded.{NotBounded}
use Rattle.analysis_commands.specs.declared.bound.NotBounded.TheVariants as refusals
use Rattle.ask_commands.specs.declared.shapes.Shape.{Shape}
use Rattle.ask_commands.specs.declared.shapes.ShapeBound.{ShapeBound}
use Rattle.ask_commands.specs.declared.shapes.ShapeBound.TheVariants.{Number, TooLong, TooLarge}
use Rattle.analysis_commands.specs.Analysis.{EachFits}
use Rattle.analysis_commands.specs.Bounding.{IsBoundNumber, IsForbidden, IsNotBounded}

-- ---- shapes

-- a shape that settings can have
pub record IsSettingsShape (shape : Shape) : Type 0 where
  pub blocks_least : 1 ≤ shape.blocks
  pub blocks_most : shape.blocks ≤ 256
  pub words_least : 1 ≤ shape.block_words
  pub words_most : shape.block_words ≤ 1024

abbrev pub with_shape : Settings → Shape → Settings
with_shape s shape = record s { blocks = shape.blocks; block_words = shape.block_words }

abbrev pub shape_with : (block_words blocks : ℕ) → Shape
shape_with block_words blocks = record { blocks = blocks; block_words = block_words }

-- the shape that has room for each code
abbrev pub widest : Shape
widest = shape_with 1024 256

abbrev pub block_sizes : List ℕ
block_sizes = 1 ∷ 2 ∷ 4 ∷ 8 ∷ 16 ∷ 32 ∷ 64 ∷ 128 ∷ 256 ∷ 512 ∷ 1024 ∷ []

abbrev pub block_counts : List ℕ
block_counts = 1 ∷ 2 ∷ 4 ∷ 8 ∷ 16 ∷ 32 ∷ 64 ∷ 128 ∷ 256 ∷ []

-- of each size of blocks, each number of them
abbrev pub all_shapes : List Shape
all_shapes = flat_map (λ size. map (shape_with size) block_counts) block_sizes

-- ---- the lines

-- a bound in cycles or `never`; or that a code doesn't fit, or that a number is past 64 bits
abbrev pub word_of : ShapeBound → List ℕ
word_of (Number bound) = bound_text bound
word_of TooLong = codes "too-long"
word_of TooLarge = codes "too-large"

abbrev pub shape_text : Shape → List ℕ
shape_text shape = codes "blocks=" ++ (decimal shape.blocks ++ (codes " block-words=" ++ decimal shape.block_words))

abbrev pub shape_line : Shape → ShapeBound → List ℕ
shape_line shape bound = shape_text shape ++ (codes " bound=" ++ (word_of bound ++ codes "\n"))

-- the lines of shapes, one behind another
abbrev pub shape_lines : List Shape → List ShapeBound → List ℕ
shape_lines [] bounds = []
shape_lines (shape ∷ shapes) [] = []
shape_lines (shape ∷ shapes) (bound ∷ bounds) = shape_line shape bound ++ shape_lines shapes bounds

-- what is found with these settings: the bound of the method of this name, or that a code doesn't fit, or that a number is too large
abbrev pub IsShapeBound : List ClassFile → Settings → (bounds_text name : List ℕ) → ShapeBound → Type 0
IsShapeBound cs s bounds_text name (Number bound) = IsBoundNumber cs s bounds_text name bound
IsShapeBound cs s bounds_text name TooLong = ¬ EachFits s cs
IsShapeBound cs s bounds_text name TooLarge = (m : ℕ) × (subject : List ℕ) × IsForbidden cs s bounds_text name (causes.TooLarge m) subject

-- the text is the lines of these shapes, with what is found in each
pub record AreLinesOfShapes (cs : List ClassFile) (s : Settings) (bounds_text name : List ℕ) (listed : List Shape) (text : List ℕ) : Type 0 where
  pub bounds : List ShapeBound
  pub each : AllZip (λ (shape : Shape) (bound : ShapeBound). IsShapeBound cs (with_shape s shape) bounds_text name bound) listed bounds
  pub text_is : text ≡ shape_lines listed bounds

-- and so of all shapes
abbrev pub AreShapeLines : List ClassFile → Settings → (bounds_text name text : List ℕ) → Type 0
AreShapeLines cs s bounds_text name text = AreLinesOfShapes cs s bounds_text name all_shapes text

-- ---- the refusals

-- what a refusal says of the shape alone: a code doesn't fit, or a number is too large
abbrev pub of_fault : AnalysisFault → Option ShapeBound
of_fault (faults.MethodTooLong m name blocks) = Some TooLong
of_fault fault = None

abbrev pub of_cause : BoundCause → Option ShapeBound
of_cause (causes.TooLarge m) = Some TooLarge
of_cause cause = None

abbrev pub of_shape : NotBounded → Option ShapeBound
of_shape (refusals.NoAnalysis fault) = of_fault fault
of_shape (refusals.Forbidden cause subject) = of_cause cause
of_shape refusals.NoMemory = None

-- why no shape has a bound: a refusal that says nothing of the shape, in the one that has room for each code
abbrev pub IsShapeRefusal : List ClassFile → Settings → (bounds_text name : List ℕ) → NotBounded → Type 0
IsShapeRefusal cs s bounds_text name refusal = (of_shape refusal ≡ None) × IsNotBounded cs (with_shape s widest) bounds_text name refusal
