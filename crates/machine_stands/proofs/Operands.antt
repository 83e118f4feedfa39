-- The words of operands, by value.
use Rattle.std.proofs.Common.{ℕ, [], ◌∷◌, refl, ◌∙◌, ap}
use Rattle.bytecode_model.specs.declared.Value.TheVariants.{Int, Long, Ref, Null, Unset}
use Rattle.image_facts.specs.Words.{low_word}
use Rattle.machine_stands.specs.Operands.{OneWordIsOnTop, TwoWordsAreOnTop, OneWordIsPushed, OperandsArePartedAnywhere, OperandsAreJoined}
use Rattle.machine_stands.proofs.Calling.{apart}

pub one_on_top : OneWordIsOnTop
one_on_top place (Int n) rest [] short h = absurd h
one_on_top place (Ref p) rest [] short h = absurd h
one_on_top place Null rest [] short h = absurd h
one_on_top place Unset rest [] short h = absurd h
one_on_top place (Int n) rest (w ∷ ws) short h = record { word = w; others = ws; split = refl; is = h.0; stay = h.1 }
one_on_top place (Ref p) rest (w ∷ ws) short h = record { word = w; others = ws; split = refl; is = h.0; stay = h.1 }
one_on_top place Null rest (w ∷ ws) short h = record { word = w; others = ws; split = refl; is = h.0; stay = h.1 }
one_on_top place Unset rest (w ∷ ws) short h = record { word = w; others = ws; split = refl; is = h.0; stay = h.1 }
one_on_top place (Long n) rest words short h = absurd (cc)

pub two_on_top : TwoWordsAreOnTop
two_on_top place n rest [] h = absurd h
two_on_top place n rest (w ∷ []) h = absurd h.0
two_on_top place n rest (low ∷ high ∷ ws) h = record { others = ws; split = ap (λ (w : ℕ). w ∷ high ∷ ws) h.0 ∙ ap (λ (w : ℕ). low_word n ∷ w ∷ ws) h.1; stay = h.2 }

pub one_pushed : OneWordIsPushed
one_pushed place (Int n) rest w ws short is h = (is, h)
one_pushed place (Ref p) rest w ws short is h = (is, h)
one_pushed place Null rest w ws short is h = (is, h)
one_pushed place Unset rest w ws short is h = (is, h)
one_pushed place (Long n) rest w ws short is h = absurd (cc)

pub parted : OperandsArePartedAnywhere
parted = apart

pub joined : OperandsAreJoined
joined place [] lower [] below h g = g
joined place [] lower (w ∷ ws) below h g = absurd h
joined place (Int n ∷ vs) lower [] below h g = absurd h
joined place (Long n ∷ vs) lower [] below h g = absurd h
joined place (Ref p ∷ vs) lower [] below h g = absurd h
joined place (Null ∷ vs) lower [] below h g = absurd h
joined place (Unset ∷ vs) lower [] below h g = absurd h
joined place (Long n ∷ vs) lower (w ∷ []) below h g = absurd h.0
joined place (Long n ∷ vs) lower (low ∷ high ∷ ws) below h g = (h.0, h.1, joined place vs lower ws below h.2 g)
joined place (Int n ∷ vs) lower (w ∷ ws) below h g = (h.0, joined place vs lower ws below h.1 g)
joined place (Ref p ∷ vs) lower (w ∷ ws) below h g = (h.0, joined place vs lower ws below h.1 g)
joined place (Null ∷ vs) lower (w ∷ ws) below h g = (h.0, joined place vs lower ws below h.1 g)
joined place (Unset ∷ vs) lower (w ∷ ws) below h g = (h.0, joined place vs lower ws below h.1 g)
