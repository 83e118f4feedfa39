-- What a call makes of the words of the stack once the place of its method is known (JVM Specification SE 8, 2.6 and 6.5).
use Rattle.std.specs.Prelude.{ℕ, ◌≡◌, ◌+◌, ◌-◌, ◌^◌, ◌<◌, ◌≤◌, Bool, true, false, nat_le, List, [], ◌∷◌, ◌++◌, length, reverse, drop, slice_index}
use Rattle.micro_flow.specs.declared.CostParams.{CostParams}
use Rattle.jop_core.specs.declared.places.TheConstants.{POOL, METHOD, FRAME_SUM, FRAME_LIMIT, RAISE_LIST, STACK}
use Rattle.micro_sketch.specs.Sketch.{Sketch}
use Rattle.micro_sketch.specs.Stands.{Env}
use Rattle.micro_sketch.specs.Row.{words_of}
use Rattle.micro_sketch.specs.Rows.{Switch, Raising, RunsSwitch, RunsToRaise}
use Rattle.call_steps.specs.Method.{max_locals, pool, frame_words, IsMethod, with_method, looked_up, as_it_stands}

-- the words of all frames with that of the method
abbrev pub sum_with : Sketch → (method : ℕ) → ℕ
sum_with x m = slice_index x.low FRAME_SUM + frame_words x.memory m

-- the frames may take as many words
abbrev pub fits_at : Sketch → (method : ℕ) → Bool
fits_at x m = nat_le (sum_with x m) (slice_index x.low FRAME_LIMIT)

-- What the call of a method needs, on a machine with n on-chip words, where these are the words of the stack, the arguments on top.
pub record CanEnter (n : ℕ) (x : Sketch) (m : ℕ) (arguments others : List ℕ) : Type 0 where
  pub method : IsMethod x m
  pub split : words_of x ≡ arguments ++ others
  pub most : length arguments ≤ max_locals x.memory m
  -- where the frame fits, the stack has at most n - 80 words then
  pub room : fits_at x m ≡ true → STACK + (length x.deep + length others + max_locals x.memory m + 5) + 16 ≤ n
  pub size : n < 2 ^ 32
  pub sum : sum_with x m < 2 ^ 32
  pub raise_list : slice_index x.low RAISE_LIST + 8 < 2 ^ 32

-- The new frame is above the words that aren't taken: the arguments and further words are its local variables, and it saves what the caller goes
-- on with, at the place behind the instruction. The method begins at its first byte.
abbrev pub enter : (x : Sketch) (m behind : ℕ) (arguments others more : List ℕ) → Switch
enter x m behind arguments others more =
    let below = length x.deep + length others in
    looked_up x m (record (as_it_stands x) {
      words = slice_index x.low METHOD ∷ slice_index x.low POOL ∷ x.vp ∷ behind ∷ (STACK + below - 3) ∷ [];
      deep = x.deep ++ (reverse others ++ (reverse arguments ++ more));
      low = with_method (pool x.memory m) m (sum_with x m) (drop 24 x.low);
      vp = STACK + below;
      jpc = 0;
    })

-- The machine comes to the first instruction of the method so, where the further words are as many as the local variables ask for.
pub record RunsEntry (n : ℕ) (p : CostParams) (op : ℕ) (x : Sketch) (e : Env) (m behind : ℕ) (arguments others : List ℕ) : Type 0 where
  pub more : List ℕ
  pub count : length arguments + length more ≡ max_locals x.memory m
  pub runs : RunsSwitch n p op (enter x m behind arguments others more) x e

-- the object of a place of the raise list; the words of the stack stay
abbrev pub raises_at : Sketch → (jpc number : ℕ) → Raising
raises_at x jpc k = record { words = words_of x; jpc = jpc; object = slice_index x.memory (slice_index x.low RAISE_LIST + k) }

-- StackOverflowError has the last place of the raise list
abbrev pub overflow_at : Sketch → (jpc : ℕ) → Raising
overflow_at x jpc = raises_at x jpc 8

-- how a call of the method goes on, whether its frame fits or not
pub record Enters (n : ℕ) (p : CostParams) (op : ℕ) (x : Sketch) (e : Env) (m behind : ℕ) (arguments others : List ℕ) : Type 0 where
  pub fitting : fits_at x m ≡ true → RunsEntry n p op x e m behind arguments others
  pub overflowing : fits_at x m ≡ false → RunsToRaise n p op (overflow_at x behind) x e
