use Rattle.std.proofs.Common.{◌≡◌, ◌≤◌, ◌+◌, ◌*◌, ◌++◌, length, take}
use Rattle.std.specs.Prelude.{vec_capacity, flat_map}
use Rattle.class_pool.specs.Utf8.{utf8_bytes}
use Rattle.name_laws.specs.Written.{written_byte}
use Rattle.refusal_lines.proofs.telling.put_rest.Given as goal

abbrev pub invariant-loop-unit : goal.invariant-loop-unit
invariant-loop-unit l = record {
  items : l.room.items ≡ l.fn.room.items ++ flat_map written_byte (utf8_bytes (take l.unit-index l.units));
  most : length l.room.items ≤ length l.fn.room.items + 4 * l.unit-index;
  room : length l.fn.room.items + 4 * length l.units ≤ vec_capacity l.room;
}
