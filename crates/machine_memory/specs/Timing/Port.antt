-- The main memory and its port: what a read, a write and a cycle do to them.
use Rattle.std.specs.Prelude.{◌≡◌, ℕ, zero, suc, ◌+◌, ◌-◌, ◌^◌, ◌<◌, ◌≤◌, ◌↔◌, List, length, replicate, slice_index, slice_set, ◌++◌, All}
use Rattle.machine_memory.specs.declared.timing.TheConstants.{MAX_WAIT}

-- the words, the cycles that a read and a write wait, the cycles until the port is ready, and the value read last
pub record Port : Type 0 where
  pub words : List ℕ
  pub read : ℕ
  pub write : ℕ
  pub count : ℕ
  pub value : ℕ

-- words of 32 bits and waits that are permitted
pub record IsInRange (p : Port) : Type 0 where
  pub words : All (λ w. w < 2 ^ 32) p.words
  pub size : length p.words < 2 ^ 32
  pub read : p.read ≤ MAX_WAIT
  pub write : p.write ≤ MAX_WAIT
  pub count : p.count ≤ MAX_WAIT + 1
  pub value : p.value < 2 ^ 32

-- an idle port over these words, of which none was read yet
abbrev pub idle : List ℕ → ℕ → ℕ → Port
idle ws r w = record { words = ws; read = r; write = w; count = 0; value = 0 }

-- n words, of which the first are given and the others 0
abbrev pub padded : List ℕ → ℕ → List ℕ
padded ws n = ws ++ replicate (n - length ws) 0

-- the port can be used
abbrev pub IsReady : Port → Type 0
IsReady p = p.count ≡ 0

-- a read of the word at place a; past the end it reads 0
abbrev pub read_started : ℕ → Port → Port
read_started a p = record p { count = p.read + 1; value = slice_index p.words a }

-- a write of v at place a; past the end it writes nothing
abbrev pub write_started : ℕ → ℕ → Port → Port
write_started a v p = record p { words = slice_set p.words a v; count = p.write + 1 }

-- a cycle passes
abbrev pub ticked : Port → Port
ticked p = record p { count = p.count - 1 }

-- n cycles pass
abbrev pub ticked_for : ℕ → Port → Port
ticked_for zero p = p
ticked_for (suc n) p = ticked_for n (ticked p)

-- the word at place a becomes v without use of the port; past the end nothing changes
abbrev pub word_set : ℕ → ℕ → Port → Port
word_set a v p = record p { words = slice_set p.words a v }

-- a read is ready once its wait and one more cycle have passed, and not before
abbrev pub ReadIsReadyInTime : Type 0
ReadIsReadyInTime = (p : Port) (a n : ℕ) → IsReady (ticked_for n (read_started a p)) ↔ (p.read + 1 ≤ n)

-- likewise a write
abbrev pub WriteIsReadyInTime : Type 0
WriteIsReadyInTime = (p : Port) (a v n : ℕ) → IsReady (ticked_for n (write_started a v p)) ↔ (p.write + 1 ≤ n)

-- however many cycles pass, what was read stays, and so do the words
abbrev pub ReadStays : Type 0
ReadStays = (p : Port) (a n : ℕ) → let q = ticked_for n (read_started a p) in (q.value ≡ slice_index p.words a) × (q.words ≡ p.words)
