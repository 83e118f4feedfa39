-- What the laws of the rules say.
use Rattle.std.specs.Prelude.{◌≡◌, ◌↔◌, ℕ, ◌⊎◌, IsTrue, Some, None}
use Rattle.class_pool.specs.declared.class.Code.{Code as CodeParts}
use Rattle.class_pool.specs.declared.class.Member.{Member}
use Rattle.class_pool.specs.declared.class.ClassFile.{ClassFile}
use Rattle.class_pool.specs.Grammar.{entry_at}
use Rattle.class_pool.specs.Found.{code_of, constant_value_of}
use Rattle.class_rules.specs.Forms.{forms_of}
use Rattle.class_rules.specs.Tests.{passes}
use Rattle.class_rules.specs.Flags.{acc_static, acc_abstract, acc_native, IsSet}
use Rattle.class_rules.specs.Rules.{HasText, IsRightCode, IsConstantOf, IsFieldConstant, IsRightField, IsRightMethod, FollowsRules}

-- the tests are true exactly where the rules hold
abbrev pub RulesAreTests : Type 0
RulesAreTests = (c : ClassFile) → IsTrue (passes (forms_of c.pool) c) ↔ FollowsRules c

-- the code that a method has is right, and a method that is neither abstract nor native has some
abbrev pub MethodsHaveCode : Type 0
MethodsHaveCode = (c : ClassFile) (m : Member) → IsRightMethod c m →
    ((code : CodeParts) → code_of m ≡ Some code → IsRightCode c.pool code)
    × (IsSet m.flags acc_abstract ⊎ IsSet m.flags acc_native → code_of m ≡ None)
    × (¬ IsSet m.flags acc_abstract → ¬ IsSet m.flags acc_native → (code : CodeParts) × (code_of m ≡ Some code))

-- the constant that a field has is right
abbrev pub FieldsHaveConstants : Type 0
FieldsHaveConstants = (c : ClassFile) (m : Member) → IsRightField c m → (index : ℕ) → constant_value_of m ≡ Some index →
    (IsSet m.flags acc_static → HasText c.pool m.descriptor (IsConstantOf (entry_at c.pool index)))
    × (¬ IsSet m.flags acc_static → IsFieldConstant (entry_at c.pool index))
