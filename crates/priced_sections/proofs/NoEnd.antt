-- Where a paid section has no value, no exit is reached from node 0: it isn't listed, and nothing behind it is.
use Rattle.std.proofs.Common.{◌≡◌, ℕ, ℤ, pos, List, slice_index, Contains, Option, Some, None, refl, subst}
use Rattle.std.specs.Prelude.{◌+ℤ◌, option_map}
use Rattle.loop_nest.specs.Digraph.{Digraph}
use Rattle.loop_nest.specs.Walks.{Walk}
use Rattle.loop_nest.specs.Walks.Walk.{stay, along}
use Rattle.section_check.specs.Section.{Certified, PricedLoop, headed_by, potential, with_fee, entry_fee}
use Rattle.priced_sections.specs.Prices.{own_due}
use Rattle.priced_sections.specs.Paid.{paying, PaysFrom, CoversWith, EdgesPay, ExitsPay, at_least_zero}
use Rattle.priced_sections.specs.Laws.{NoValueNoEnd}

unlisted_next : (l : Option PricedLoop) (cost back u : ℕ) (a b : Option ℤ) → a ≡ None → PaysFrom l cost back u a b → b ≡ None
unlisted_next l cost back u a b none pays =
    let P : Option ℤ → Type 0 = λ z. PaysFrom l cost back u z b in
    let go : (z : Option ℤ) → PaysFrom l cost back u None z → z ≡ None = elim [ None ↦ λ k. refl | Some q ↦ λ k. absurd k ] in
    go b (subst P none pays)

unlisted_ends : (g : Digraph) (costs : List ℕ) (back : ℕ → ℕ) (c : Certified) (ls : List PricedLoop) → EdgesPay g costs back c ls → ExitsPay g costs back c → {u x : ℕ} {ns : List ℕ} → Walk g u x ns → potential c.nodes u ≡ None → Contains g.exits x → ⊥
unlisted_ends g costs back c ls edges exits (stay {u}) none exit = let P : Option ℤ → Type 0 = λ z. CoversWith (slice_index costs u) (back u) z in subst P none (exits u exit)
unlisted_ends g costs back c ls edges exits (along {u} {v} {w} {ns} e t) none exit =
    unlisted_ends g costs back c ls edges exits t (unlisted_next (headed_by v ls) (slice_index costs u) (back u) u (potential c.nodes u) (potential c.nodes v) none (edges u v e)) exit

first_unlisted : (due fees : ℕ) (o : Option ℤ) → option_map (λ z. at_least_zero (z +ℤ pos due)) (with_fee o fees) ≡ None → o ≡ None
first_unlisted due fees None is = refl
first_unlisted due fees (Some p) is = absurd (let bad : ⊥ = cc in bad)

pub no_value_no_end : NoValueNoEnd
no_value_no_end g costs back c bounds loads fs paid none exit ns is_exit walk =
    let ls = paying c bounds loads fs in
    unlisted_ends g costs back c ls paid.edges paid.exits walk (first_unlisted (own_due fs) (entry_fee ls 0) (potential c.nodes 0) none) is_exit
