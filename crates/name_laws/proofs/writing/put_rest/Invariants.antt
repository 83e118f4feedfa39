use Rattle.std.proofs.Common.{◌≡◌, ◌≤◌, ◌+◌, ◌*◌, ◌++◌, length, take}
use Rattle.std.specs.Prelude.{vec_capacity, flat_map}
use Rattle.name_laws.specs.Written.{written_byte}
use Rattle.name_laws.proofs.writing.put_rest.Given as goal

abbrev pub invariant-loop-byte : goal.invariant-loop-byte
invariant-loop-byte l = record {
  items : l.room.items ≡ l.fn.room.items ++ flat_map written_byte (take l.byte-index l.bytes);
  most : length l.room.items ≤ length l.fn.room.items + 4 * l.byte-index;
  room : length l.fn.room.items + 4 * length l.bytes ≤ vec_capacity l.room;
}
