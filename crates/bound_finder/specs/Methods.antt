-- What is found of all methods that may run, targets first, and what is answered then.
use Rattle.std.specs.Prelude.{◌≡◌, ◌≢◌, ℕ, true, false, List, [], ◌∷◌, length, map, All, Contains, Some, None, IfNone, IfSome, ◌++◌, slice_set}
use Rattle.section_check.specs.Least.{IsLeast, lesser_of}
use Rattle.certificates.specs.declared.lines.line.SectionKind.TheVariants.{Alone}
use Rattle.certificates.specs.declared.cert.CertSection.{CertSection}
use Rattle.certificates.specs.Certificate.{IsSectionInText}
use Rattle.bound_rules.specs.declared.faults.BoundRefusal.{BoundRefusal}
use Rattle.bound_rules.specs.Told.{Valued}
use Rattle.bound_rules.specs.Conditions.{MeetAll}
use Rattle.bound_finder.specs.declared.known.Known.{Known}
use Rattle.bound_finder.specs.declared.found.Found.{Found}
use Rattle.bound_finder.specs.declared.methods.Methods.{Methods}
use Rattle.bound_finder.specs.Known.{BoundSetting, bounds_in, ForEach, known_at, IsLimited, CalleesAreKnown, IsKnownOf}
use Rattle.bound_finder.specs.Prepared.{IsNotPrepared}
use Rattle.bound_finder.specs.Found.{HasSection, IsFoundOf}
use Rattle.bound_finder.specs.Ready.{AreBehindCalls}

-- what sections of these methods say, by what is known of them
abbrev pub values_by : List Known → List ℕ → List Valued
values_by table ms = map (λ m. record { method = m; inside = (known_at table m).fits; value = (known_at table m).asked }) ms

-- a method among these has a number that is too large
abbrev pub IsLargeAmong : List Known → List ℕ → ℕ → Type 0
IsLargeAmong table ms m = Contains ms m × ((known_at table m).too_large ≡ true)

-- the section lists no node where it is known of its method that it can't end
abbrev pub IsEmptyIfEndless : List Known → CertSection → Type 0
IsEmptyIfEndless table s = (known_at table s.method).asked ≡ None → s.section.nodes ≡ []

-- Of the methods that were looked at: what is known of each, and that each with no number that is too large has a section; the least with one that is,
-- and where there is none the sections of all, which meet their conditions one behind the other.
pub record AreMethodsFound (set : BoundSetting) (done : List ℕ) (a : Methods) : Type 0 where
  pub long : length a.table.items ≡ length set.flow.methods
  pub limited : All IsLimited a.table.items
  pub known : ForEach set (λ P. AreBehindCalls P done → (m : ℕ) → Contains done m
      → IsKnownOf P set.timing (bounds_in set) a.table.items m (known_at a.table.items m))
  pub shown : ForEach set (λ P. AreBehindCalls P done → (m : ℕ) → Contains done m → (known_at a.table.items m).too_large ≡ false
      → HasSection P set.timing (bounds_in set) a.table.items m (known_at a.table.items m))
  pub least : IsLeast (IsLargeAmong a.table.items done) a.least
  pub in_text : All (IsSectionInText 2) a.sections.items
  pub kinds : All (λ s. s.kind ≢ Alone) a.sections.items
  pub methods : IfNone a.least (map (λ s. s.method) a.sections.items ≡ done)
  pub empty : IfNone a.least (All (IsEmptyIfEndless a.table.items) a.sections.items)
  pub meet : IfNone a.least (ForEach set (λ P. AreBehindCalls P done → MeetAll P set.timing (bounds_in set) [] a.sections.items (values_by a.table.items done)))

-- what is found of one method more
pub record AddsMethod (m : ℕ) (found : Found) (old new : Methods) : Type 0 where
  pub table : new.table.items ≡ slice_set old.table.items m found.known
  pub some : IfSome found.section (λ s. (new.sections.items ≡ old.sections.items ++ s ∷ []) × (new.least ≡ old.least))
  pub none : IfNone found.section ((new.sections.items ≡ old.sections.items) × (new.least ≡ lesser_of old.least (Some m)))

-- what is found of the method m is added
pub record AddsNext (set : BoundSetting) (m : ℕ) (old new : Methods) : Type 0 where
  pub found : Found
  pub is : IsFoundOf set old.table.items m found
  pub adds : AddsMethod m found old new

-- or it can't be found, where all that it may call is told
abbrev pub IsUnready : BoundSetting → (table : List Known) → (method : ℕ) → BoundRefusal → Type 0
IsUnready set table m fault = ForEach set (λ P. CalleesAreKnown P set.timing table m → IsNotPrepared P (bounds_in set) m fault)
