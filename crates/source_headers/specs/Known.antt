-- Names, and numbers with some of them.
use Rattle.std.specs.Prelude.{◌↔◌, ◌⊎◌, ℕ, List, [], Contains, slice_index_or}
use Rattle.source_headers.specs.declared.site.Site.{Site}

-- names, each with the numbers that are known of it
pub record KnownSites : Type 0 where
  pub names : List (List ℕ)
  pub sites : List (List ℕ × ℕ)

-- a site as it is kept, where these are the names
abbrev pub site_by : (names : List (List ℕ)) → Site → List ℕ × ℕ
site_by names s = (slice_index_or names s.name [], s.number)

-- what the list has now: what it had, and those
abbrev pub IsWith : {X : Type 0} → (old new : List X) → (X → Type 0) → Type 0
IsWith {X} old new Q = (x : X) → Contains new x ↔ (Contains old x ⊎ Q x)

-- the name is known, and the number isn't known of it
abbrev pub LacksSite : KnownSites → (name : List ℕ) → (number : ℕ) → Type 0
LacksSite k name n = Contains k.names name × (¬ Contains k.sites (name, n))
