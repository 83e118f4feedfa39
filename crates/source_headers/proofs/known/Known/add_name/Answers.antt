use Rattle.std.proofs.Common.{◌≡◌, List, ℕ, Some, ◌∙◌, ap, subst}
use Rattle.bound_texts.proofs.LoopsLemmas.NameLemmas.{texts, IsGrown, grown}
use Rattle.source_headers.specs.Known.{KnownSites, IsWith}
use Rattle.source_headers.proofs.KnownLemmas.{still_numbered, names_with, name_at, sites_stay}
use Rattle.source_headers.proofs.known.Known.add_name.Goals as goal

more_names : (c : goal.In_ok-index) → IsGrown (texts c.self.inside.names.keys) (texts c.insert_full.new.self.keys) c.in_ok-index.index c.in_ok-name.name.items
more_names c =
    let r = c.in_ok-index.ensures in
    grown c.self.inside.names.keys c.insert_full.new.self.keys c.in_ok-index.index c.in_ok-name.name r.keys r.stored r.unique

pub invariant_of-self-2 : goal.invariant_of-self-2
invariant_of-self-2 c =
    let g = more_names c in
    (still_numbered (texts c.self.inside.names.keys) (texts c.insert_full.new.self.keys) c.in_ok-index.index c.in_ok-name.name.items g c.self.inside.sites.keys c.self.invariant.0, g.apart)

pub returns-clause-names : goal.returns-clause-names
returns-clause-names c =
    let ks = c.self.inside.names.keys in
    let more = c.insert_full.new.self.keys in
    let W : List (List ℕ) → List ℕ → Type 0 = λ old name. IsWith old (texts more) (λ x. x ≡ name) in
    let was : texts ks ≡ c.args.self.now.names = ap (λ (k : KnownSites). k.names) c.self.view_is in
    subst (λ (old : List (List ℕ)). W old c.args.name.now) was
    (subst (W (texts ks)) c.in_ok-name.ensures.items (names_with ks more c.in_ok-index.index c.in_ok-name.name c.in_ok-index.ensures.keys (more_names c)))

pub returns-clause-sites : goal.returns-clause-sites
returns-clause-sites c =
    sites_stay (texts c.self.inside.names.keys) (texts c.insert_full.new.self.keys) c.in_ok-index.index c.in_ok-name.name.items (more_names c) c.self.inside.sites.keys c.self.invariant.0
    ∙ ap (λ (k : KnownSites). k.sites) c.self.view_is

pub returns-clause-index : goal.returns-clause-index
returns-clause-index c =
    name_at c.self.inside.names.keys c.insert_full.new.self.keys c.in_ok-index.index c.in_ok-name.name.items (more_names c) ∙ ap Some c.in_ok-name.ensures.items
