-- A part of a list of parts that is set anew.
use Rattle.std.proofs.Common.{◌≡◌, ℕ, zero, suc, ◌<◌, ◌≤◌, List, [], ◌∷◌, length, refl, ap, arith}
use Rattle.std.specs.Prelude.{slice_set, slice_index_or}
use Rattle.netlist.specs.declared.net.Net.{Net}
use Rattle.netlist.specs.declared.parts.Register as register
use Rattle.netlist.specs.declared.parts.BlockRam.{BlockRam}
use Rattle.netlist.specs.declared.parts.ReadPort.{ReadPort}
use Rattle.netlist.specs.declared.parts.WritePort.{WritePort}
use Rattle.circuit_build.specs.Parts.{with_next, with_ports}

pub next_is : (rs : List register.Register) (k : ℕ) (d : register.Register) (next : Net) → k < length rs
    → slice_set rs k (record (slice_index_or rs k d) { next = next }) ≡ with_next rs k next
next_is [] k d next lt = absurd (omega (arith, lt))
next_is (r ∷ rs) zero d next lt = refl
next_is (r ∷ rs) (suc k) d next lt = ap (λ l. r ∷ l) (next_is rs k d next (omega (arith, lt)))

pub next_past : (rs : List register.Register) (k : ℕ) (next : Net) → length rs ≤ k → rs ≡ with_next rs k next
next_past [] k next le = refl
next_past (r ∷ rs) zero next le = absurd (omega (arith, le))
next_past (r ∷ rs) (suc k) next le = ap (λ l. r ∷ l) (next_past rs k next (omega (arith, le)))

-- block RAMs, of which that with this number writes so
abbrev pub with_write : List BlockRam → ℕ → BlockRam → WritePort → List BlockRam
with_write ms k d write = slice_set ms k (record (slice_index_or ms k d) { write = write })

pub ports_are : (ms : List BlockRam) (k : ℕ) (d e : BlockRam) (write : WritePort) (read : ReadPort) → k < length ms
    → slice_set (with_write ms k d write) k (record (slice_index_or (with_write ms k d write) k e) { read = read }) ≡ with_ports ms k write read
ports_are [] k d e write read lt = absurd (omega (arith, lt))
ports_are (m ∷ ms) zero d e write read lt = refl
ports_are (m ∷ ms) (suc k) d e write read lt = ap (λ l. m ∷ l) (ports_are ms k d e write read (omega (arith, lt)))

pub ports_past : (ms : List BlockRam) (k : ℕ) (write : WritePort) (read : ReadPort) → length ms ≤ k → ms ≡ with_ports ms k write read
ports_past [] k write read le = refl
ports_past (m ∷ ms) zero write read le = absurd (omega (arith, le))
ports_past (m ∷ ms) (suc k) write read le = ap (λ l. m ∷ l) (ports_past ms k write read (omega (arith, le)))
