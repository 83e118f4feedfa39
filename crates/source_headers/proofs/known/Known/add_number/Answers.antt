use Rattle.std.proofs.Common.{◌≡◌, subst, map, get_or, []}
use Rattle.bound_texts.proofs.LoopsLemmas.NameLemmas.{texts}
use Rattle.source_headers.specs.Known.{KnownSites, IsWith, site_by}
use Rattle.source_headers.proofs.KnownLemmas.{sites_with}
use Rattle.source_headers.proofs.known.Known.add_number.Goals as goal

pub returns-clause-sites : goal.returns-clause-sites
returns-clause-sites c =
    let names = texts c.self.inside.names.keys in
    let ss = c.self.inside.sites.keys in
    let more = c.insert.new.self.keys in
    let W : KnownSites → Type 0 = λ k. IsWith k.sites (map (site_by names) more) (λ x. x ≡ (get_or k.names c.args.name [], c.args.number)) in
    subst W c.self.view_is (sites_with names ss more (record { name = c.args.name; number = c.args.number }) c.in_ok-insert.ensures.keys)
