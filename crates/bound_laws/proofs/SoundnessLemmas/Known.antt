-- What is known of a program, a machine for it and their steps, from the laws of the crates below.
use Rattle.std.proofs.Common.{◌≡◌, ℕ, ◌≤◌, List, length, Some, None, IsSome, refl, sym, ap, ◌∙◌, subst, inl, inr, arith}
use Rattle.std.specs.declared.option.Option.{Option}
use Rattle.std.proofs.lemmas.Bool.Decides.{leb_tells}
use Rattle.base.specs.Packed.{words_for, PackedHasWords}
use Rattle.method_cache.specs.Regions.LookUps.{LoadsKeepTheSum, LookUpsFollow, StallsFollow}
use Rattle.loop_nest.specs.Digraph.{Digraph}
use Rattle.bound_laws.specs.Soundness.Stays.{StaysArePaid}
use Rattle.bytecode_model.specs.Program.{Program, Body, body_of}
use Rattle.method_flow.specs.Graphs.{IsLiveGraph}
use Rattle.method_flow.specs.Regions.{IsWithin, IsWithinNodes, code_words}
use Rattle.method_flow.specs.Regions.IsWithin.{calls}
use Rattle.method_flow.specs.Regions.IsWithinNodes.{itself as is_itself, calls as is_called}
use Rattle.method_flow.specs.Walks.{EndingIsAWalk}
use Rattle.bound_rules.specs.Laws.{MethodsHaveCode}
use Rattle.activations.specs.Setting.{Setting, IsSetting}
use Rattle.activations.specs.Steps.{AreWords, StepsAreTold}
use Rattle.activations.specs.Trees.{StaysAreWalks}
use Rattle.bound_laws.proofs.SoundnessLemmas.Charged.{SectionLaws}

-- methods with code have live graphs, but that one can be given isn't said
abbrev pub HaveLiveGraphs : Program → Type 0
HaveLiveGraphs P = (m : ℕ) (b : Body) → body_of P m ≡ Some b → ¬ ¬ ((g : Digraph) × IsLiveGraph P m g)

-- Beside the setting, the words of the methods by their places.
pub record Known (g : Setting) : Type 0 where
  pub setting : IsSetting g
  pub words : ℕ → List ℕ
  pub are_words : AreWords g.program g.places words
  pub live_graphs : HaveLiveGraphs g.program
  pub packed : PackedHasWords
  -- look-ups
  pub sums : LoadsKeepTheSum
  pub follow : LookUpsFollow
  pub stalls : StallsFollow
  -- stays
  pub steps : StepsAreTold
  pub paid : StaysArePaid
  pub walks : StaysAreWalks
  pub ending : EndingIsAWalk
  -- sections
  pub section_laws : SectionLaws
  pub coded : MethodsHaveCode

-- ---- methods with code

some_of : {X : Type 0} (o : Option X) → IsSome o → (x : X) × (o ≡ Some x)
some_of None e = absurd (cc)
some_of (Some x) e = (x, refl)

-- the words of a method's code, by its place
pub words_by_place : (g : Setting) (words : ℕ → List ℕ) → AreWords g.program g.places words → PackedHasWords → (m : ℕ) → IsSome (body_of g.program m) → length (words (g.places.method m)) ≡ code_words g.program m
words_by_place g words are packed m coded =
    let b = some_of (body_of g.program m) coded in
    let has = ap (λ (ws : List ℕ). length ws) (are m b.0 b.1) ∙ packed b.0.code in
    let long : code_words g.program m ≡ words_for (length b.0.code) = ap (λ (o : Option Body). elim o [ None ↦ 0 | Some x ↦ words_for (length x.code) ]) b.1 in
    has ∙ sym long

module _ (g : Setting) (k : Known g) where
  pub keyed : (m : ℕ) → IsSome (body_of g.program m) → length (k.words (g.places.method m)) ≡ code_words g.program m
  keyed m coded = words_by_place g k.words k.are_words k.packed m coded

  -- what may run while a method with code does has code
  pub within_coded : (m x : ℕ) → IsSome (body_of g.program m) → IsWithin g.program m x → IsSome (body_of g.program x)
  within_coded m x coded within = k.coded g.program k.setting.lawful m x coded within

  pub nodes_coded : (m x : ℕ) (nodes : List ℕ) → IsSome (body_of g.program m) → IsWithinNodes g.program m nodes x → IsSome (body_of g.program x)
  nodes_coded m x nodes coded (is_itself same) = subst (λ (y : ℕ). IsSome (body_of g.program y)) (sym same) coded
  nodes_coded m x nodes coded (is_called p t among start call target within) = within_coded m x coded (calls p start call target within)

  -- ---- what can be compared holds where its contrary doesn't

  pub stable : (a b : ℕ) → ¬ ¬ (a ≤ b) → a ≤ b
  stable a b h =
      elim (leb_tells a b) [
        | inl small ↦ small.1
        | inr large ↦ let l = large.1 in absurd (h (λ few. let bad : ⊥ = omega arith in bad))
      ]

  -- so a live graph can be taken where such a fact is shown
  pub with_graph : (m : ℕ) → IsSome (body_of g.program m) → (a b : ℕ) → ((part : Digraph) → IsLiveGraph g.program m part → a ≤ b) → a ≤ b
  with_graph m coded a b shows =
      let body = some_of (body_of g.program m) coded in
      stable a b (λ not_so. k.live_graphs m body.0 body.1 (λ part. not_so (shows part.0 part.1)))
