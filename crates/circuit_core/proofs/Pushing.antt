-- The groups of words that are pushed are all of them.
use Rattle.std.proofs.Common.{◌≡◌, ℕ, ◌^◌, Bool, true, false, List, [], ◌∷◌, if◌then◌else◌, refl, nat_lt, ltb-true}
use Rattle.std.specs.Prelude.{◌&&◌, ◌==◌, Option, Some, None}
use Rattle.std.specs.List.{list_any}
use Rattle.base.specs.Signed.{sign_extended8, sign_extended16}
use Rattle.microcode.specs.Isa.Operations.{operation_of}
use Rattle.circuit_cycles.specs.Words.{bits_of}
use Rattle.circuit_cycles.specs.Core.{Core, loaded, pushed, pushed_plain}
use Rattle.circuit_core.specs.Choices.{from_operand, from_place, from_outside}
use Rattle.circuit_core.specs.Decoding.{picked}
use Rattle.circuit_core.specs.Standing.{input_word}
use Rattle.circuit_core.proofs.Choosing.{AllBelow, each}

-- x where the code is one of these, else y, of a word that is plain or isn't
abbrev among : (t : Bool) (k : ℕ) → List ℕ → (x y : ℕ) → ℕ
among t k codes x y = if t && list_any (λ code. k == code) codes then x else y

abbrev by_group : (t : Bool) (k input : ℕ) → Core → ℕ
by_group t k input c =
    among t k (14 ∷ 15 ∷ 16 ∷ []) (among t k (15 ∷ []) (sign_extended8 c.operand) (among t k (16 ∷ []) (sign_extended16 c.operand) c.operand))
    (among t k (27 ∷ 29 ∷ 31 ∷ []) (among t k (27 ∷ []) c.vp (among t k (29 ∷ []) c.sp c.jpc))
    (among t k (2 ∷ 40 ∷ 44 ∷ []) (among t k (2 ∷ []) c.a (among t k (40 ∷ []) c.value input)) (loaded c)))

abbrev by_name : (t : Bool) (k : ℕ) → Option ℕ → Core → ℕ
by_name t k given c = if t then pushed_plain (operation_of k) given c else loaded c

each_code : (given : Option ℕ) (c : Core) → AllBelow (λ k. by_group true k (input_word given) c ≡ by_name true k given c) (2 ^ 6)
each_code (Some byte) c = (
  refl,
  (
    refl,
    (
      refl,
      (
        refl,
        (
          refl,
          (
            refl,
            (
              refl,
              (
                refl,
                (
                  refl,
                  (
                    refl,
                    (
                      refl,
                      (
                        refl,
                        (
                          refl,
                          (
                            refl,
                            (
                              refl,
                              (
                                refl,
                                (
                                  refl,
                                  (
                                    refl,
                                    (
                                      refl,
                                      (
                                        refl,
                                        (
                                          refl,
                                          (
                                            refl,
                                            (
                                              refl,
                                              (
                                                refl,
                                                (
                                                  refl,
                                                  (
                                                    refl,
                                                    (
                                                      refl,
                                                      (
                                                        refl,
                                                        (
                                                          refl,
                                                          (
                                                            refl,
                                                            (
                                                              refl,
                                                              (
                                                                refl,
                                                                (
                                                                  refl,
                                                                  (
                                                                    refl,
                                                                    (
                                                                      refl,
                                                                      (
                                                                        refl,
                                                                        (
                                                                          refl,
                                                                          (
                                                                            refl,
                                                                            (
                                                                              refl,
                                                                              (
                                                                                refl,
                                                                                (
                                                                                  refl,
                                                                                  (
                                                                                    refl,
                                                                                    (
                                                                                      refl,
                                                                                      (
                                                                                        refl,
                                                                                        (
                                                                                          refl,
                                                                                          (
                                                                                            refl,
                                                                                            (
                                                                                              refl,
                                                                                              (
                                                                                                refl,
                                                                                                (
                                                                                                  refl,
                                                                                                  (
                                                                                                    refl,
                                                                                                    (
                                                                                                      refl,
                                                                                                      (
                                                                                                        refl,
                                                                                                        (
                                                                                                          refl,
                                                                                                          (
                                                                                                            refl,
                                                                                                            (
                                                                                                              refl,
                                                                                                              (
                                                                                                                refl,
                                                                                                                (
                                                                                                                  refl,
                                                                                                                  (
                                                                                                                    refl,
                                                                                                                    (
                                                                                                                      refl,
                                                                                                                      (
                                                                                                                        refl,
                                                                                                                        (refl, (refl, (refl, (refl, tt)))),
                                                                                                                      ),
                                                                                                                    ),
                                                                                                                  ),
                                                                                                                ),
                                                                                                              ),
                                                                                                            ),
                                                                                                          ),
                                                                                                        ),
                                                                                                      ),
                                                                                                    ),
                                                                                                  ),
                                                                                                ),
                                                                                              ),
                                                                                            ),
                                                                                          ),
                                                                                        ),
                                                                                      ),
                                                                                    ),
                                                                                  ),
                                                                                ),
                                                                              ),
                                                                            ),
                                                                          ),
                                                                        ),
                                                                      ),
                                                                    ),
                                                                  ),
                                                                ),
                                                              ),
                                                            ),
                                                          ),
                                                        ),
                                                      ),
                                                    ),
                                                  ),
                                                ),
                                              ),
                                            ),
                                          ),
                                        ),
                                      ),
                                    ),
                                  ),
                                ),
                              ),
                            ),
                          ),
                        ),
                      ),
                    ),
                  ),
                ),
              ),
            ),
          ),
        ),
      ),
    ),
  ),
)
each_code None c = (
  refl,
  (
    refl,
    (
      refl,
      (
        refl,
        (
          refl,
          (
            refl,
            (
              refl,
              (
                refl,
                (
                  refl,
                  (
                    refl,
                    (
                      refl,
                      (
                        refl,
                        (
                          refl,
                          (
                            refl,
                            (
                              refl,
                              (
                                refl,
                                (
                                  refl,
                                  (
                                    refl,
                                    (
                                      refl,
                                      (
                                        refl,
                                        (
                                          refl,
                                          (
                                            refl,
                                            (
                                              refl,
                                              (
                                                refl,
                                                (
                                                  refl,
                                                  (
                                                    refl,
                                                    (
                                                      refl,
                                                      (
                                                        refl,
                                                        (
                                                          refl,
                                                          (
                                                            refl,
                                                            (
                                                              refl,
                                                              (
                                                                refl,
                                                                (
                                                                  refl,
                                                                  (
                                                                    refl,
                                                                    (
                                                                      refl,
                                                                      (
                                                                        refl,
                                                                        (
                                                                          refl,
                                                                          (
                                                                            refl,
                                                                            (
                                                                              refl,
                                                                              (
                                                                                refl,
                                                                                (
                                                                                  refl,
                                                                                  (
                                                                                    refl,
                                                                                    (
                                                                                      refl,
                                                                                      (
                                                                                        refl,
                                                                                        (
                                                                                          refl,
                                                                                          (
                                                                                            refl,
                                                                                            (
                                                                                              refl,
                                                                                              (
                                                                                                refl,
                                                                                                (
                                                                                                  refl,
                                                                                                  (
                                                                                                    refl,
                                                                                                    (
                                                                                                      refl,
                                                                                                      (
                                                                                                        refl,
                                                                                                        (
                                                                                                          refl,
                                                                                                          (
                                                                                                            refl,
                                                                                                            (
                                                                                                              refl,
                                                                                                              (
                                                                                                                refl,
                                                                                                                (
                                                                                                                  refl,
                                                                                                                  (
                                                                                                                    refl,
                                                                                                                    (
                                                                                                                      refl,
                                                                                                                      (
                                                                                                                        refl,
                                                                                                                        (refl, (refl, (refl, (refl, tt)))),
                                                                                                                      ),
                                                                                                                    ),
                                                                                                                  ),
                                                                                                                ),
                                                                                                              ),
                                                                                                            ),
                                                                                                          ),
                                                                                                        ),
                                                                                                      ),
                                                                                                    ),
                                                                                                  ),
                                                                                                ),
                                                                                              ),
                                                                                            ),
                                                                                          ),
                                                                                        ),
                                                                                      ),
                                                                                    ),
                                                                                  ),
                                                                                ),
                                                                              ),
                                                                            ),
                                                                          ),
                                                                        ),
                                                                      ),
                                                                    ),
                                                                  ),
                                                                ),
                                                              ),
                                                            ),
                                                          ),
                                                        ),
                                                      ),
                                                    ),
                                                  ),
                                                ),
                                              ),
                                            ),
                                          ),
                                        ),
                                      ),
                                    ),
                                  ),
                                ),
                              ),
                            ),
                          ),
                        ),
                      ),
                    ),
                  ),
                ),
              ),
            ),
          ),
        ),
      ),
    ),
  ),
)

same : (k : ℕ) (given : Option ℕ) (c : Core) (t : Bool) → nat_lt k (2 ^ 6) ≡ t → by_group t k (input_word given) c ≡ by_name t k given c
same k given c true h =
    each (λ j. by_group true j (input_word given) c ≡ by_name true j given c) (2 ^ 6) (each_code given c) k (ltb-true k (2 ^ 6) h)
same k given c false h = refl

pub pushes_all : (given : Option ℕ) (c : Core) → picked (14 ∷ 15 ∷ 16 ∷ []) c.word (from_operand c) (picked (27 ∷ 29 ∷ 31 ∷ []) c.word (from_place c)
    (picked (2 ∷ 40 ∷ 44 ∷ []) c.word (from_outside (input_word given) c) (loaded c))) ≡ pushed given c
pushes_all given c = same (bits_of c.word) given c (nat_lt (bits_of c.word) (2 ^ 6)) refl
