-- Whether methods fit the method cache together (JOP Reference Handbook, "Method Cache").
use Rattle.std.specs.Prelude.{ℕ, ◌<◌, List, length, All}
use Rattle.std.specs.List.Sorted.{IsStrictlyIncreasing}
use Rattle.bytecode_model.specs.Program.{Program}
use Rattle.method_cache.specs.Regions.Region.{AreDistinct}
use Rattle.method_flow.specs.Flow.{Flow}
use Rattle.method_flow.specs.Regions.{AreMethodsOf, Fit}
use Rattle.call_regions.specs.declared.answers.Region.{Region}
use Rattle.call_regions.specs.declared.answers.Region.TheVariants.{Fits, Exceeds}

-- these are exactly the methods of a set, rising, and a cache of so many blocks of so many words holds them all at once
pub record IsFittingRegion (P : Program) (blocks block_words : ℕ) (K : ℕ → Type 0) (xs : List ℕ) : Type 0 where
  pub methods : AreMethodsOf K xs
  pub fit : Fit P blocks block_words xs
  pub rising : IsStrictlyIncreasing xs

-- the methods of a set, where the cache holds them all at once; that it doesn't, where no list of exactly these fits
abbrev pub IsRegionAnswer : Program → (blocks block_words : ℕ) → (K : ℕ → Type 0) → Region → Type 0
IsRegionAnswer P blocks block_words K (Fits xs) = IsFittingRegion P blocks block_words K xs
IsRegionAnswer P blocks block_words K Exceeds = (xs : List ℕ) → AreMethodsOf K xs → Fit P blocks block_words xs → ⊥

-- these are methods of the table, each once
abbrev pub AreKnown : Flow → List ℕ → Type 0
AreKnown f xs = All (λ m. m < length f.methods) xs × AreDistinct xs

-- and so are the methods of the answer
abbrev pub AreOfTable : Flow → Region → Type 0
AreOfTable f (Fits xs) = AreKnown f xs
AreOfTable f Exceeds = Unit {0}
