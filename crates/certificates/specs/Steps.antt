-- What one line adds to what was read.
use Rattle.std.specs.Prelude.{◌≡◌, List, ℕ, ◌++◌, map, Some}
use Rattle.std.specs.Option.{option_to_list}
use Rattle.certificates.specs.declared.lines.line.CertLine.{CertLine}
use Rattle.certificates.specs.declared.cert.CertSection.{CertSection}
use Rattle.certificates.specs.declared.reader.begun.Begun.{Begun}
use Rattle.certificates.specs.declared.reader.reading.Reading.{Reading}
use Rattle.certificates.specs.declared.reader.reading.Reading.TheVariants as readings
use Rattle.certificates.specs.Certificate.{sort_of}
use Rattle.certificates.specs.Drafts.{Draft, Blank, Versioned, Begun as BegunDraft, Whole, IsDraft, put, Adds}

-- ---- what the fields mean

abbrev pub sections_of : Begun → List CertSection
sections_of b = b.closed.items ++ option_to_list b.current

-- the sorts that are kept are those of the sections
abbrev pub AreKept : Begun → Type 0
AreKept b = b.sorts.keys ≡ map sort_of (sections_of b)

abbrev pub begun_draft : Begun → Draft
begun_draft b = BegunDraft b.version b.root b.closed.items b.current

abbrev pub draft_of : Reading → Draft
draft_of readings.Blank = Blank
draft_of (readings.Versioned version) = Versioned version
draft_of (readings.Begun b) = begun_draft b
draft_of (readings.Whole c) = Whole c

abbrev pub IsReading : Reading → Type 0
IsReading readings.Blank = Unit {0}
IsReading (readings.Versioned version) = IsDraft (Versioned version)
IsReading (readings.Begun b) = AreKept b × IsDraft (begun_draft b)
IsReading (readings.Whole c) = IsDraft (Whole c)

-- the section to which lines added stands behind the others
pub record IsClosed (old new : Begun) : Type 0 where
  pub closed : new.closed.items ≡ sections_of old
  pub version : new.version ≡ old.version
  pub root : new.root ≡ old.root
  pub sorts : new.sorts ≡ old.sorts

-- it says how reading goes on behind what the line says
pub record GivesNext (draft : Draft) (said : CertLine) (next : Reading) : Type 0 where
  pub put : put draft said ≡ Some (draft_of next)
  pub reading : IsReading next

pub record AddsNext (draft : Draft) (line : List ℕ) (next : Reading) : Type 0 where
  pub adds : Adds draft line (draft_of next)
  pub reading : IsReading next
