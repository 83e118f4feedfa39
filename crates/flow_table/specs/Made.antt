-- The methods of the table, made of those of a program.
use Rattle.std.specs.Prelude.{◌≡◌, ℕ, ◌+◌, ◌<◌, ◌^◌, List, length, map, Some, IsSome, slice_get}
use Rattle.std.specs.Option.{IsSomeAnd}
use Rattle.class_pool.specs.declared.class.ClassFile.{ClassFile}
use Rattle.class_pool.specs.declared.class.Code.{Code}
use Rattle.class_pool.specs.Found.{code_of}
use Rattle.class_lookup.specs.Lookup.{method_at}
use Rattle.bytecode_model.specs.Lists.{onto}
use Rattle.bytecode_model.specs.Program.{body_of}
use Rattle.method_flow.specs.declared.flow.HandlerRange.{HandlerRange}
use Rattle.method_flow.specs.Flow.{Coded, range_of}
use Rattle.program_tables.specs.Numbers.{methods_by_number}
use Rattle.program_tables.specs.Resolved.{resolved}
use Rattle.name_laws.specs.Written.{written_name}
use Rattle.flow_table.specs.Invokes.{calls_in}

-- an entry of an exception table of a class file (4.7.3), what it catches apart
abbrev pub range_at : ℕ × ℕ × ℕ × ℕ → HandlerRange
range_at h = record { start = h.0; end = h.1; handler = h.2 }

-- the code of the method of this number (4.7.3)
abbrev pub HasCode : List ClassFile → (method : ℕ) → Code → Type 0
HasCode cs m k = onto (onto (slice_get (methods_by_number cs) m) (method_at cs)) code_of ≡ Some k

-- so many methods have code, which are the first ones, and the numbers of lists fit 32 bits
pub record AreCoded (cs : List ClassFile) (coded : ℕ) : Type 0 where
  pub all : (m : ℕ) → m < coded → IsSome (body_of (resolved cs) m)
  pub no_others : (m : ℕ) → IsSome (body_of (resolved cs) m) → m < coded
  pub few : coded + length (methods_by_number cs) < 2 ^ 32

-- the method of this number, with its name as it is written, its code and its exception table, and its invokes
pub record IsMade (cs : List ClassFile) (coded m : ℕ) (k : Coded) : Type 0 where
  pub name : k.name ≡ written_name cs m
  pub body : IsSomeAnd (body_of (resolved cs) m) (λ b. (b.code ≡ k.code) × (map range_of b.handlers ≡ k.ranges))
  pub calls : k.calls ≡ calls_in (resolved cs) coded m k.code

-- the first so many methods
pub record AreMade (cs : List ClassFile) (coded count : ℕ) (ks : List Coded) : Type 0 where
  pub long : length ks ≡ count
  pub each : (m : ℕ) (k : Coded) → slice_get ks m ≡ Some k → IsMade cs coded m k
