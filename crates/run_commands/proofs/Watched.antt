-- What is shown of a traced run is a trace.
use Rattle.std.proofs.Common.{◌≡◌, List, sym, subst}
use Rattle.class_pool.specs.declared.class.ClassFile.{ClassFile}
use Rattle.endings.specs.declared.show.Show.{Show}
use Rattle.endings.specs.declared.show.Show.TheVariants as shows
use Rattle.endings.specs.Show.{Shown, IsTrace, ShowsTrace, bare_shown, linked_shown}

traced_bare : (show : Show) → IsTrace show → ShowsTrace (bare_shown show)
traced_bare shows.Output trace = absurd trace
traced_bare (shows.Trace cycles) trace = tt

traced_linked : (cs : List ClassFile) (show : Show) → IsTrace show → ShowsTrace (linked_shown cs show)
traced_linked cs shows.Output trace = absurd trace
traced_linked cs (shows.Trace cycles) trace = tt

pub bare_is_traced : (shown : Shown) (show : Show) → shown ≡ bare_shown show → IsTrace show → ShowsTrace shown
bare_is_traced shown show is trace = subst ShowsTrace (sym is) (traced_bare show trace)

pub linked_is_traced : (cs : List ClassFile) (shown : Shown) (show : Show) → shown ≡ linked_shown cs show → IsTrace show → ShowsTrace shown
linked_is_traced cs shown show is trace = subst ShowsTrace (sym is) (traced_linked cs show trace)

pub same_trace : (planned show : Show) → planned ≡ show → IsTrace show → IsTrace planned
same_trace planned show is trace = subst IsTrace (sym is) trace
