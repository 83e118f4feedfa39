-- The first of what stands at a place, in a method and in a class.
use Rattle.std.proofs.Common.{◌≡◌, ℕ, List, [], ◌∷◌, ◌++◌, Some, None, refl, ap}
use Rattle.std.specs.Option.{option_map, option_map_or}
use Rattle.std.specs.List.{flat_map, enumerate_from}
use Rattle.lists.specs.Lists.{first}
use Rattle.program_tables.specs.declared.refusal.Item.{Item}
use Rattle.program_tables.specs.declared.refusal.Site.{Site}
use Rattle.class_pool.specs.declared.class.Code.{Code}
use Rattle.class_pool.specs.declared.class.Member.{Member}
use Rattle.class_pool.specs.declared.class.ClassFile.{ClassFile}
use Rattle.class_pool.specs.Found.{code_of}
use Rattle.program_tables.specs.declared.refusal.Site.TheVariants as sites
use Rattle.program_tables.specs.Instructions.{instructions_in, instructions_of}
use Rattle.program_tables.specs.Unsupported.{sited, unsupported_in}
use Rattle.class_checks.specs.Causes.{method_items, unsupported_at_field, unsupported_at, unsupported_in_method}

pub of_sited : (site : Site) (items : List Item) → first (sited site items) ≡ option_map (λ item. (site, item)) (first items)
of_sited site [] = refl
of_sited site (x ∷ items) = refl

-- ---- a method

pub in_method : (c : ClassFile) (n : ℕ) (m : Member) → unsupported_in_method c (n, m) ≡ sited (sites.Method n) (method_items c m) ++ flat_map (unsupported_at c n) (instructions_of m)
unfolding unsupported_in_method method_items unsupported_at
in_method c n m = refl

pub in_class : (c : ClassFile) → unsupported_in c ≡ flat_map (unsupported_at_field c) (enumerate_from 0 c.fields) ++ flat_map (unsupported_in_method c) (enumerate_from 0 c.methods)
unfolding unsupported_in unsupported_at_field unsupported_in_method
in_class c = refl

pub instructions_are : (m : Member) (code : Code) → code_of m ≡ Some code → instructions_of m ≡ instructions_in code.code
instructions_are m code e = ap (λ o. option_map_or (λ (k : Code). instructions_in k.code) o []) e

pub no_instructions : (m : Member) → code_of m ≡ None → instructions_of m ≡ []
no_instructions m e = ap (λ o. option_map_or (λ (k : Code). instructions_in k.code) o []) e
