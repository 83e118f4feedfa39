-- Runs between sketches that stand for the same machine.
use Rattle.std.proofs.Common.{◌≡◌, ℕ, suc, ◌+◌, ◌*◌, Bool, true, List, [], ◌++◌, length, refl, sym, ap, ◌∙◌, subst, arith}
use mathlib.Core.List.{reverse_aux}
use Rattle.jop_core.specs.Cycle.{at_boundary}
use Rattle.jop_core.specs.Scene.{Scene, run}
use Rattle.micro_flow.specs.Walk.{Walker, walk}
use Rattle.micro_sketch.specs.Sketch.{Sketch}
use Rattle.micro_sketch.specs.Stands.{Env, Shaped, PortFits, Reaches, Tells, stalls}
use Rattle.micro_sketch.specs.Frames.{whole, split, reframed}
use Rattle.micro_sketch.specs.Laws.{RunsFor, Alike}
use Rattle.micro_sketch.proofs.Frames.{reframed_whole, split_anywhere, split_shape}

pub tells_alike : (n : ℕ) (x y : Sketch) (e : Env) (s : Walker) → Alike n x y → Tells x e s → Tells y e s
tells_alike n x y e s a t =
    record { at = λ d. t.at (sym a.done ∙ d) ∙ sym a.mpc; port = t.port; left = t.left ∙ sym a.left; over = t.over ∙ sym a.done; fine = t.fine }

pub tells_before : (n : ℕ) (x y : Sketch) (e : Env) (s : Walker) → Alike n x y → Tells y e s → Tells x e s
tells_before n x y e s a t =
    record { at = λ d. t.at (a.done ∙ d) ∙ a.mpc; port = t.port; left = t.left ∙ a.left; over = t.over ∙ a.done; fine = t.fine }

-- the stalls of other counts
pub exchanged : (a b c x x' y y' : ℕ) → a + y ≡ b + c + x → y' + x ≡ y + x' → a + y' ≡ b + c + x'
exchanged a b c x x' y y' p q = omega arith

pub between : (n : ℕ) (x x' y y' : Sketch) (e : Env) → Reaches n x y e → Alike n x x' → Alike n y y' → x'.fine ≡ true → ((r : ℕ) → stalls y' r + stalls x r ≡ stalls y r + stalls x' r) → Reaches n x' y' e
between n x x' y y' e r a b f s = record {
  cycles = r.cycles;
  positive = r.positive;
  env = r.env;
  same = ap (λ (c : Scene). run r.cycles c) (sym (a.same e)) ∙ r.same ∙ b.same r.env;
  clock = r.clock;
  read = r.read;
  write = r.write;
  port = subst (λ k. PortFits k r.env) (sym b.busy) r.port;
  shape = b.shape r.shape;
  was = f;
  quiet = λ i h. ap (λ (c : Scene). at_boundary (run (suc i) c).state) (sym (a.same e)) ∙ r.quiet i h;
  ending = ap (λ (c : Scene). at_boundary c.state) (sym (b.same r.env)) ∙ r.ending ∙ sym b.done;
  way = λ p q w v t.
      let g = r.way p q w v (tells_before n x x' e v a t) in
      record {
        choices = g.choices;
        tells = tells_alike n y y' r.env (walk p g.choices v) b g.tells;
        clock = exchanged (walk p g.choices v).clock v.clock r.cycles (stalls x p.r) (stalls x' p.r) (stalls y p.r) (stalls y' p.r) g.clock (s p.r);
      };
}

pub between_alike : (n : ℕ) (x x' y y' : Sketch) (e : Env) (a : Reaches n x y e) → Alike n x x' → Alike n y y' → x'.fine ≡ true → ((r : ℕ) → stalls y' r + stalls x r ≡ stalls y r + stalls x' r) →
    RunsFor n x' y' e a.cycles a.env
unfolding between
between_alike n x x' y y' e r a b f s = record { reaches = between n x x' y y' e r a b f s; takes = refl; leaves = refl }

pub alike_itself : (n : ℕ) (x : Sketch) → Alike n x x
alike_itself n x = record { same = λ e. refl; mpc = refl; left = refl; busy = refl; done = refl; shape = λ h. h }

-- with other counts, and allowed or not
pub alike_counts : (n : ℕ) (x : Sketch) (i j : ℕ) (fine : Bool) → Alike n x (record x { loads = i; words = j; fine = fine })
alike_counts n x i j fine = record { same = λ e. refl; mpc = refl; left = refl; busy = refl; done = refl; shape = λ h. record { low = h.low; total = h.total } }

pub alike_split : (n : ℕ) (x : Sketch) (d us js : List ℕ) → Shaped n x → whole x ≡ d ++ reverse_aux us js → length x.deep + length x.under ≡ length d + length us → Alike n x (split x d us js)
alike_split n x d us js h w l =
    record { same = λ e. (split_anywhere n x e d us js h w l).0; mpc = refl; left = refl; busy = refl; done = refl; shape = λ s. split_shape n x d us js w s }

-- a run to a sketch of which all was allowed
pub allowed : (n : ℕ) (x y : Sketch) (e : Env) → Reaches n x y e → Reaches n x (record y { fine = true }) e
allowed n x y e r = between n x x y (record y { fine = true }) e r (alike_itself n x) (alike_counts n y y.loads y.words true) r.was (λ k. refl)

-- a run counted from other numbers on
pub recounted : (n : ℕ) (x y : Sketch) (e : Env) (i j : ℕ) → Reaches n x y e →
    Reaches n (record x { loads = x.loads + i; words = x.words + j; fine = true }) (record y { loads = y.loads + i; words = y.words + j; fine = true }) e
recounted n x y e i j r =
    between n x (record x { loads = x.loads + i; words = x.words + j; fine = true }) y (record y { loads = y.loads + i; words = y.words + j; fine = true }) e r
    (alike_counts n x (x.loads + i) (x.words + j) true) (alike_counts n y (y.loads + i) (y.words + j) true) refl (λ k. counts x.loads x.words y.loads y.words i j k)
  where
    counts : (a b c d i j r : ℕ) → (c + i) * 4 + (d + j) * (2 + r) + (a * 4 + b * (2 + r)) ≡ c * 4 + d * (2 + r) + ((a + i) * 4 + (b + j) * (2 + r))
    counts a b c d i j r = omega arith

-- a run to words that are split elsewhere
pub to_split : (n : ℕ) (x y : Sketch) (e : Env) (d us js : List ℕ) → Reaches n x y e → whole y ≡ d ++ reverse_aux us js → length y.deep + length y.under ≡ length d + length us → Reaches n x (split y d us js) e
to_split n x y e d us js r w l = between n x x y (split y d us js) e r (alike_itself n x) (alike_split n y d us js r.shape w l) r.was (λ k. refl)

-- a run to a sketch whose last deep words are taken as part of the moving part
pub to_reframed : (n : ℕ) (x y : Sketch) (e : Env) (d us : List ℕ) → Reaches n x y e → y.deep ≡ d ++ reverse_aux us [] → Reaches n x (reframed y d us) e
to_reframed n x y e d us r h = let w = reframed_whole y d us h in to_split n x y e d (y.under ++ us) y.above r w.0 w.1
