-- A class file that is read is spelled so, and a class file that is spelled so is read.
use Rattle.std.proofs.Common.{◌≡◌, ℕ, ◌-◌, ◌<◌, ◌≤◌, ◌==◌, ◌⊎◌, inl, inr, Bool, true, false, cond, List, ◌++◌, length, take, drop, Option, Some, None, refl, sym, ap, subst, ◌∙◌, arith, eqb-true, take-append-drop}
use Rattle.std.specs.Prelude.{Result, Err}
use Rattle.std.proofs.lemmas.List.{drop_at, take_all, length-drop}
use Rattle.class_pool.specs.declared.entry.Entry.{Entry}
use Rattle.base.specs.declared.fault.FormatFault.{FormatFault}
use Rattle.base.specs.declared.fault.FormatFault.TheVariants as faults
use Rattle.class_pool.specs.Spelling.{u2, u4, pool_bytes}
use Rattle.class_pool.specs.Grammar.{IsPool, IsPoolOf}
use Rattle.base.specs.Reading.{◌>>=◌, Fails}
use Rattle.class_pool.specs.Reading.{number_in}
use Rattle.class_pool.specs.NumberLaws.{IsBytes, bind_some, same_some, Takes, Takes-then, wide_2, wide_4, number_takes, number_again}
use Rattle.class_pool.specs.declared.class.ClassFile.{ClassFile}
use Rattle.class_file.specs.declared.fault.ClassFault.{ClassFault}
use Rattle.class_file.specs.declared.fault.ClassFault.TheVariants as answers
use Rattle.class_file.specs.Faults.{class_fault}
use Rattle.class_pool.specs.ClassSpelling.{inside_bytes, header_bytes, magic}
use Rattle.class_pool.specs.Structure.{IsHalf}
use Rattle.class_rules.specs.Rules.{FollowsRules}
use Rattle.class_rules.specs.Grammar.{IsClassOf}
use Rattle.class_file.specs.Grammar.{IsBehindHeader, IsOtherVersion}
use Rattle.class_file.specs.Reading.{header_in}
use Rattle.class_file.specs.InsideGrammar.{IsInsideOf, OneInside}

passed : {A : Type 0} (b : Bool) (x y : A) → cond b (Some x) None ≡ Some y → (b ≡ true) × (x ≡ y)
passed true x y e = (refl, same_some x y e)
passed false x y e = absurd (let f : None ≡ Some y = e in cc)

-- a step of reading whose part is there
step : {X Y : Type 0} (read : List ℕ → Option (X × List ℕ)) (f : X × List ℕ → Option Y) (bytes : List ℕ) (x : X × List ℕ) → read bytes ≡ Some x → (read bytes >>= f) ≡ f x
step read f bytes x e = ap (λ r. r >>= f) e

-- ---- headers

pub header_takes : (bytes : List ℕ) (minor major : ℕ) (rest : List ℕ) → IsBytes bytes → header_in bytes ≡ Some ((minor, major), rest) → Takes bytes (header_bytes minor major) rest × IsHalf minor × IsHalf major
unfolding header_in
header_takes bytes minor major rest small e =
    let a = bind_some (number_in 4 bytes) (λ m. cond (m.0 == 0xCAFEBABE) (Some m.1) None >>= λ r. number_in 2 r >>= λ x. number_in 2 x.1 >>= λ y. Some ((x.0, y.0), y.1)) ((minor, major), rest) e in
    let b = bind_some (cond (a.0.0 == 0xCAFEBABE) (Some a.0.1) None) (λ r. number_in 2 r >>= λ x. number_in 2 x.1 >>= λ y. Some ((x.0, y.0), y.1)) ((minor, major), rest) a.2 in
    let p = passed (a.0.0 == 0xCAFEBABE) a.0.1 b.0 b.1 in
    let d = bind_some (number_in 2 b.0) (λ x. number_in 2 x.1 >>= λ y. Some ((x.0, y.0), y.1)) ((minor, major), rest) b.2 in
    let f = bind_some (number_in 2 d.0.1) (λ y. Some ((d.0.0, y.0), y.1)) ((minor, major), rest) d.2 in
    let t0 = number_takes 4 wide_4 bytes a.0.0 a.0.1 small a.1 in
    let t0b : Takes bytes magic b.0 = subst (λ (r : List ℕ). Takes bytes magic r) p.1 (subst (λ (n : ℕ). Takes bytes (u4 n) a.0.1) (eqb-true a.0.0 0xCAFEBABE p.0) t0.0) in
    let t1 = number_takes 2 wide_2 b.0 d.0.0 d.0.1 t0b.rest_fits d.1 in
    let t2 = number_takes 2 wide_2 d.0.1 f.0.0 f.0.1 t1.0.rest_fits f.1 in
    let e12 = Takes-then b.0 (u2 d.0.0) d.0.1 (u2 f.0.0) f.0.1 t1.0 t2.0 in
    let e02 = Takes-then bytes magic b.0 (u2 d.0.0 ++ u2 f.0.0) f.0.1 t0b e12 in
    let made : (ℕ × ℕ) × List ℕ = ((d.0.0, f.0.0), f.0.1) in
    let P : (ℕ × ℕ) × List ℕ → Type 0 = λ x. Takes bytes (header_bytes x.0.0 x.0.1) x.1 × IsHalf x.0.0 × IsHalf x.0.1 in
    subst P (same_some made ((minor, major), rest) f.2) (e02, t1.1, t2.1)

pub header_again : (minor major : ℕ) (rest : List ℕ) → IsHalf minor → IsHalf major → header_in (header_bytes minor major ++ rest) ≡ Some ((minor, major), rest)
unfolding header_in
header_again minor major rest h k =
    let r2 : List ℕ = u2 major ++ rest in
    let r1 : List ℕ = u2 minor ++ r2 in
    step (number_in 4) (λ m. cond (m.0 == 0xCAFEBABE) (Some m.1) None >>= λ r. number_in 2 r >>= λ x. number_in 2 x.1 >>= λ y. Some ((x.0, y.0), y.1)) (magic ++ r1) (0xCAFEBABE, r1) (number_again 4 wide_4 0xCAFEBABE r1 (omega arith))
    ∙ step (number_in 2) (λ x. number_in 2 x.1 >>= λ y. Some ((x.0, y.0), y.1)) r1 (minor, r2) (number_again 2 wide_2 minor r2 h)
    ∙ step (number_in 2) (λ y. Some ((minor, y.0), y.1)) r2 (major, rest) (number_again 2 wide_2 major rest k)

-- ---- behind the header

pub behind_found : (minor major : ℕ) (bytes : List ℕ) (pool : List Entry) (taken : ℕ) (c : ClassFile) → IsPoolOf (take taken bytes) pool
    → IsInsideOf minor major pool (drop taken bytes) c → FollowsRules c → IsBehindHeader minor major bytes c
behind_found minor major bytes pool taken c is r follows =
    record {
      same_minor = r.same_minor;
      same_major = r.same_major;
      pool = subst IsPool (sym r.same_pool) is.grammar;
      inside = r.structure;
      rules = follows;
      spelling = sym (take-append-drop taken bytes) ∙ ap (λ (b : List ℕ). b ++ drop taken bytes) is.spelling ∙ ap (λ (b : List ℕ). pool_bytes pool ++ b) r.spelling ∙ ap (λ (p : List Entry). pool_bytes p ++ inside_bytes c) (sym r.same_pool);
    }

-- a class file that stands there stands behind its pool
pub behind_read : (minor major : ℕ) (bytes : List ℕ) (pool : List Entry) (taken : ℕ) (c : ClassFile) → IsBehindHeader minor major bytes c
    → (pool ≡ c.pool) × (taken ≡ length (pool_bytes c.pool)) → IsInsideOf minor major pool (drop taken bytes) c
behind_read minor major bytes pool taken c is same =
    record {
      spelling = ap (drop taken) is.spelling ∙ drop_at (pool_bytes c.pool) (inside_bytes c) taken (sym same.1);
      structure = is.inside;
      same_minor = is.same_minor;
      same_major = is.same_major;
      same_pool = sym same.0;
    }

-- no other fault is told where a class file stands
pub memory_alone : {X : Type 0} (fault : FormatFault) (read : Option X) (x : X) → Fails fault read → read ≡ Some x → fault ≡ faults.NoMemory
memory_alone faults.NoMemory read x fails is = refl
memory_alone faults.Bad read x fails is = absurd (let f : None ≡ Some x = sym fails ∙ is in cc)

-- ---- class files

pub class_found : (bytes : List ℕ) (minor major : ℕ) (rest : List ℕ) (c : ClassFile) → IsBytes bytes → header_in bytes ≡ Some ((minor, major), rest) → 50 ≤ major → major ≤ 52 → IsBehindHeader minor major rest c → IsClassOf bytes c
class_found bytes minor major rest c small header oldest newest is =
    let t = header_takes bytes minor major rest small header in
    let P : ℕ → Type 0 = λ m. (50 ≤ m) × (m ≤ 52) in
    let range : P c.major = subst P (sym is.same_major) (oldest, newest) in
    record {
      grammar = record { minor = subst IsHalf (sym is.same_minor) t.1; oldest = range.0; newest = range.1; pool = is.pool; inside = is.inside; rules = is.rules };
      spelling = t.0.parts ∙ ap (λ (b : List ℕ). header_bytes minor major ++ b) is.spelling
          ∙ ap (λ (m : ℕ). header_bytes m major ++ (pool_bytes c.pool ++ inside_bytes c)) (sym is.same_minor)
          ∙ ap (λ (m : ℕ). header_bytes c.minor m ++ (pool_bytes c.pool ++ inside_bytes c)) (sym is.same_major);
    }

-- the header of a class file is read
pub class_header : (bytes : List ℕ) (c : ClassFile) → IsClassOf bytes c → header_in bytes ≡ Some ((c.minor, c.major), pool_bytes c.pool ++ inside_bytes c)
class_header bytes c is =
    ap header_in is.spelling ∙ header_again c.minor c.major (pool_bytes c.pool ++ inside_bytes c) is.grammar.minor (let n = is.grammar.newest in omega (arith, n))

-- the header of another version is read
pub other_header : (bytes : List ℕ) (major : ℕ) (is : IsOtherVersion bytes major) → header_in bytes ≡ Some ((is.minor, major), is.rest)
other_header bytes major is = ap header_in is.spelling ∙ header_again is.minor major is.rest is.minor_fits is.major_fits

-- what a header that was read says of a class file
pub record IsHeaderOf (minor major : ℕ) (rest : List ℕ) (c : ClassFile) : Type 0 where
  pub same_minor : c.minor ≡ minor
  pub same_major : c.major ≡ major
  pub behind : IsBehindHeader minor major rest c

pub class_behind : (bytes : List ℕ) (minor major : ℕ) (rest : List ℕ) (c : ClassFile) → header_in bytes ≡ Some ((minor, major), rest) → IsClassOf bytes c → IsHeaderOf minor major rest c
class_behind bytes minor major rest c header is =
    let here : (ℕ × ℕ) × List ℕ = ((minor, major), rest) in
    let there : (ℕ × ℕ) × List ℕ = ((c.minor, c.major), pool_bytes c.pool ++ inside_bytes c) in
    let same : there ≡ here = same_some there here (sym (class_header bytes c is) ∙ header) in
    let a : c.minor ≡ minor = ap (λ (p : (ℕ × ℕ) × List ℕ). p.0.0) same in
    let b : c.major ≡ major = ap (λ (p : (ℕ × ℕ) × List ℕ). p.0.1) same in
    let d : pool_bytes c.pool ++ inside_bytes c ≡ rest = ap (λ (p : (ℕ × ℕ) × List ℕ). p.1) same in
    record { same_minor = a; same_major = b; behind = record { same_minor = a; same_major = b; pool = is.grammar.pool; inside = is.grammar.inside; rules = is.grammar.rules; spelling = sym d } }

pub other_behind : (bytes : List ℕ) (minor major : ℕ) (rest : List ℕ) (m : ℕ) → header_in bytes ≡ Some ((minor, major), rest) → IsOtherVersion bytes m → (m ≡ major) × ((m < 50) ⊎ (52 < m))
other_behind bytes minor major rest m header is =
    let here : (ℕ × ℕ) × List ℕ = ((minor, major), rest) in
    let there : (ℕ × ℕ) × List ℕ = ((is.minor, m), is.rest) in
    let same : there ≡ here = same_some there here (sym (other_header bytes m is) ∙ header) in
    (ap (λ (p : (ℕ × ℕ) × List ℕ). p.0.1) same, is.other)

pub is_other : (bytes : List ℕ) (minor major : ℕ) (rest : List ℕ) → IsBytes bytes → header_in bytes ≡ Some ((minor, major), rest) → (major < 50) ⊎ (52 < major) → IsOtherVersion bytes major
is_other bytes minor major rest small header other =
    let t = header_takes bytes minor major rest small header in
    record { minor = minor; rest = rest; minor_fits = t.1; major_fits = t.2; other = other; spelling = t.0.parts }

pub tail_is : (taken : ℕ) (bytes : List ℕ) → drop taken bytes ≡ take (length bytes - taken) (drop taken bytes)
tail_is taken bytes = sym (take_all (length bytes - taken) (drop taken bytes) (omega (arith, length-drop taken bytes)))

-- ---- what the clauses of `read_class` say

abbrev pub Read : Type 0
Read = Option ((ℕ × ℕ) × List ℕ)

pub no_header : (fault : FormatFault) (read : Read) (found : (ℕ × ℕ) × List ℕ) → fault ≡ faults.Bad → Fails fault read → read ≡ Some found → ⊥
no_header faults.NoMemory read found same fails is = absurd (cc)
no_header faults.Bad read found same fails is = absurd (let f : None ≡ Some found = sym fails ∙ is in cc)

abbrev answer : ClassFault → Result ClassFile ClassFault
answer fault = Err fault

-- a fault of a part is no version
pub no_version : (fault : FormatFault) (major : ℕ) → answer (class_fault fault) ≡ answer (answers.Version major) → ⊥
no_version faults.NoMemory major e = absurd (cc)
no_version faults.Bad major e = absurd (cc)

pub version_is : (m major : ℕ) → answer (answers.Version m) ≡ answer (answers.Version major) → m ≡ major
version_is m major e = cc

pub is_bad : (fault : FormatFault) → answer (class_fault fault) ≡ answer answers.Bad → fault ≡ faults.Bad
is_bad faults.NoMemory e = absurd (cc)
is_bad faults.Bad e = refl

pub memory_is : (fault : FormatFault) → fault ≡ faults.NoMemory → class_fault fault ≡ answers.NoMemory
memory_is fault e = ap class_fault e

pub memory_not_bad : (fault : FormatFault) → fault ≡ faults.NoMemory → fault ≡ faults.Bad → ⊥
memory_not_bad fault a b = absurd (let f : faults.NoMemory ≡ faults.Bad = sym a ∙ b in cc)

-- a version that is read is no other one
pub not_other : (major : ℕ) → 50 ≤ major → major ≤ 52 → (m : ℕ) → m ≡ major → (m < 50) ⊎ (52 < m) → ⊥
not_other major oldest newest m same (inl lt) = omega (arith, lt, same)
not_other major oldest newest m same (inr lt) = omega (arith, lt, same)

-- the version of a class file is read
pub is_no_other : (bytes : List ℕ) (minor major : ℕ) (rest : List ℕ) (c : ClassFile) → header_in bytes ≡ Some ((minor, major), rest) → IsClassOf bytes c → (major < 50) ⊎ (52 < major) → ⊥
is_no_other bytes minor major rest c header is other =
    let h = class_behind bytes minor major rest c header is in
    not_other c.major is.grammar.oldest is.grammar.newest major (sym h.same_major) other

-- ---- the bytes of a class file are those of no other

-- what is said of pools: no pool's bytes begin another's
abbrev pub OnePool : Type 0
OnePool = (es fs : List Entry) (rest more : List ℕ) → IsPool es → IsPool fs → pool_bytes es ++ rest ≡ pool_bytes fs ++ more → (es ≡ fs) × (rest ≡ more)

pub one_of : OnePool → OneInside → (bytes : List ℕ) (c d : ClassFile) → IsClassOf bytes c → IsClassOf bytes d → c ≡ d
one_of one_pool one_inside bytes c d is_c is_d =
    let here : (ℕ × ℕ) × List ℕ = ((c.minor, c.major), pool_bytes c.pool ++ inside_bytes c) in
    let there : (ℕ × ℕ) × List ℕ = ((d.minor, d.major), pool_bytes d.pool ++ inside_bytes d) in
    let same : here ≡ there = same_some here there (sym (class_header bytes c is_c) ∙ class_header bytes d is_d) in
    let pools = one_pool c.pool d.pool (inside_bytes c) (inside_bytes d) is_c.grammar.pool is_d.grammar.pool (ap (λ (p : (ℕ × ℕ) × List ℕ). p.1) same) in
    one_inside c.minor c.major c.pool (inside_bytes c) c d
    (record { spelling = refl; structure = is_c.grammar.inside; same_minor = refl; same_major = refl; same_pool = refl })
    (record {
      spelling = pools.1;
      structure = is_d.grammar.inside;
      same_minor = ap (λ (p : (ℕ × ℕ) × List ℕ). p.0.0) (sym same);
      same_major = ap (λ (p : (ℕ × ℕ) × List ℕ). p.0.1) (sym same);
      same_pool = sym pools.0;
    })
