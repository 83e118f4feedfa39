-- The flags of classes, fields and methods: JVM Specification SE 8, tables 4.1-A, 4.5-A and 4.6-A. Each is one bit.
use Rattle.std.specs.Prelude.{◌≡◌, ℕ, bit_and}

abbrev pub acc_public : ℕ
acc_public = 0x0001

abbrev pub acc_private : ℕ
acc_private = 0x0002

abbrev pub acc_protected : ℕ
acc_protected = 0x0004

abbrev pub acc_static : ℕ
acc_static = 0x0008

abbrev pub acc_final : ℕ
acc_final = 0x0010

abbrev pub acc_synchronized : ℕ
acc_synchronized = 0x0020

abbrev pub acc_native : ℕ
acc_native = 0x0100

abbrev pub acc_interface : ℕ
acc_interface = 0x0200

abbrev pub acc_abstract : ℕ
acc_abstract = 0x0400

abbrev pub acc_strict : ℕ
acc_strict = 0x0800

-- a flag is set
abbrev pub IsSet : ℕ → ℕ → Type 0
IsSet flags flag = ¬ (bit_and flags flag ≡ 0)
