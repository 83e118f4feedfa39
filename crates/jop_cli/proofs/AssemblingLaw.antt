-- A text that is assembled is listed, and what refuses a text is answered.
use Rattle.std.proofs.Common.{◌≡◌, ℕ, suc, List, [], ◌∷◌, ◌++◌, length, Option, Some, map, refl, sym, ◌∙◌, ap, ap₂, subst, arith, ◌⊎◌, inl, inr}
use Rattle.std.specs.List.{flat_map}
use Rattle.lists.proofs.Lemmas.{none≢some, some_same}
use Rattle.outside.specs.Outside.{Grew}
use Rattle.microcode_asm.specs.Statements.{Line}
use Rattle.microcode_asm.specs.declared.AsmKind.{AsmKind}
use Rattle.microcode_asm.specs.declared.Rom.{Rom}
use Rattle.microcode_asm.specs.Programs.{word_count, places_of, fault_of}
use Rattle.microcode_asm.specs.Roms.{IsProgram, IsAssembled, IsFirstRefused, HasTooManyWords, words_of}
use Rattle.microcode_asm.specs.Listing.{listing_of}
use Rattle.command_line.specs.declared.command.Command.TheVariants.{Asm as Assemble}
use Rattle.endings.specs.declared.outcome.AsmRefusal.{AsmRefusal}
use Rattle.endings.specs.declared.outcome.AsmRefusal.TheVariants as asm
use Rattle.endings.specs.declared.outcome.Refusal.TheVariants as refusals
use Rattle.endings.specs.declared.outcome.Ending.{Ending}
use Rattle.endings.specs.declared.outcome.Ending.TheVariants as endings
use Rattle.ask_commands.specs.Assembling.{IsListing, IsNoProgram, Assembles}
use Rattle.jop_cli.specs.Calls.{Call, NothingFailed, LacksMemory, IsTold}
use Rattle.jop_cli.specs.promises.Asm.{IsListed, AssemblingIsComplete, AsmRefusalsAreAnswered, AsmRefusalsAreOne}
use Rattle.jop_cli.specs.promises.Answers.{AnswersEnding}
use Rattle.jop_cli.proofs.Wholly.{IsWholly, wholly, executed, same_bytes, length_told}

-- ---- the lines of a text

same_lines : (xs ys : List Line) → map Some xs ≡ map Some ys → xs ≡ ys
same_lines [] [] e = refl
same_lines [] (y ∷ ys) e = absurd (cc)
same_lines (x ∷ xs) [] e = absurd (cc)
same_lines (x ∷ xs) (y ∷ ys) e =
    let head : x ≡ y = cc in
    let tail : map Some xs ≡ map Some ys = cc in
    ap (λ (z : Line). z ∷ xs) head ∙ ap (λ (zs : List Line). y ∷ zs) (same_lines xs ys tail)

-- a line behind others is one of the text
pub record IsBehind (lines before : List Line) (line : Option Line) : Type 0 where
  pub of : Line
  pub line_is : line ≡ Some of
  pub after : List Line
  pub lines_are : lines ≡ before ++ of ∷ after

behind : (lines before : List Line) (line : Option Line) (after : List (Option Line)) → map Some lines ≡ map Some before ++ line ∷ after → IsBehind lines before line
behind [] [] line after e = absurd (cc)
behind [] (b ∷ before) line after e = absurd (cc)
behind (l ∷ lines) [] line after e = let head : line ≡ Some l = cc in record { of = l; line_is = head; after = lines; lines_are = refl }
behind (l ∷ lines) (b ∷ before) line after e =
    let head : l ≡ b = cc in
    let tail : map Some lines ≡ map Some before ++ line ∷ after = cc in
    let r : IsBehind lines before line = behind lines before line after tail in
    record { of = r.of; line_is = r.line_is; after = r.after; lines_are = ap (λ (z : Line). z ∷ lines) head ∙ ap (λ (zs : List Line). b ∷ zs) r.lines_are }

keeps_all : (text : List ℕ) (lines : List Line) (number : ℕ) (kind : AsmKind) → IsProgram text lines → IsFirstRefused text number kind → ⊥
keeps_all text lines number kind is first =
    let r : IsBehind lines first.before first.line = behind lines first.before first.line first.after (sym is.read ∙ first.lines) in
    none≢some kind (sym (is.kept first.before r.of r.after r.lines_are) ∙ (ap (fault_of (places_of text) first.before) (sym r.line_is) ∙ first.broken))

not_first : (text : List ℕ) (rom : Rom) (number : ℕ) (kind : AsmKind) → IsAssembled text rom → IsFirstRefused text number kind → ⊥
not_first text rom number kind is first = keeps_all text is.lines number kind is.program first

not_many : (text : List ℕ) (rom : Rom) (words : ℕ) → IsAssembled text rom → HasTooManyWords text words → ⊥
not_many text rom words is many =
    let same : is.lines ≡ many.lines = same_lines is.lines many.lines (sym is.program.read ∙ many.program.read) in
    let counts : word_count is.lines ≡ word_count many.lines = ap word_count same in
    omega (arith, counts, is.fits, many.count, many.many)

not_refused : (text : List ℕ) (rom : Rom) (refusal : AsmRefusal) → IsAssembled text rom → IsNoProgram text refusal → ⊥
not_refused text rom (asm.Line number kind) is h = not_first text rom number kind is h
not_refused text rom (asm.TooLong words) is h = not_many text rom words is h

same_listing : (text listing : List ℕ) (rom : Rom) → IsAssembled text rom → IsListing text listing → listing ≡ listing_of rom.words
same_listing text listing rom is h =
    let o : IsAssembled text h.rom = h.assembled in
    let same : o.lines ≡ is.lines = same_lines o.lines is.lines (sym o.program.read ∙ is.program.read) in
    h.is ∙ ap listing_of (o.words ∙ (ap (λ (ls : List Line). flat_map (λ line. words_of (places_of text) line.statement) ls) same ∙ sym is.words))

-- ---- one refusal

-- of two ways to part the lines of a text at one of them, one parts before the other, or they are the same
abbrev Parted : (ls ms : List Line) (x y : Option Line) → Type 0
Parted ls ms x y = IsBehind ms ls x ⊎ (IsBehind ls ms y ⊎ ((ls ≡ ms) × (x ≡ y)))

behind_more : (a b : Line) (lines before : List Line) (line : Option Line) → b ≡ a → IsBehind lines before line → IsBehind (b ∷ lines) (a ∷ before) line
behind_more a b lines before line same r =
    record { of = r.of; line_is = r.line_is; after = r.after; lines_are = ap (λ (z : Line). z ∷ lines) same ∙ ap (λ (zs : List Line). a ∷ zs) r.lines_are }

parted_more : (a b : Line) (ls ms : List Line) (x y : Option Line) → a ≡ b → Parted ls ms x y → Parted (a ∷ ls) (b ∷ ms) x y
parted_more a b ls ms x y same (inl r) = inl (behind_more a b ms ls x (sym same) r)
parted_more a b ls ms x y same (inr (inl r)) = inr (inl (behind_more b a ls ms y same r))
parted_more a b ls ms x y same (inr (inr r)) = inr (inr (ap₂ (λ (z : Line) (zs : List Line). z ∷ zs) same r.0, r.1))

parted : (ls ms : List Line) (x y : Option Line) (us vs : List (Option Line)) → map Some ls ++ x ∷ us ≡ map Some ms ++ y ∷ vs → Parted ls ms x y
parted [] [] x y us vs e = let same : x ≡ y = cc in inr (inr (refl, same))
parted [] (b ∷ ms) x y us vs e = let same : x ≡ Some b = cc in inl (record { of = b; line_is = same; after = ms; lines_are = refl })
parted (a ∷ ls) [] x y us vs e = let same : y ≡ Some a = cc in inr (inl (record { of = a; line_is = same; after = ls; lines_are = refl }))
parted (a ∷ ls) (b ∷ ms) x y us vs e =
    let head : a ≡ b = cc in
    let tail : map Some ls ++ x ∷ us ≡ map Some ms ++ y ∷ vs = cc in
    parted_more a b ls ms x y head (parted ls ms x y us vs tail)

-- a line before the first that is refused isn't
not_before : (text : List ℕ) (number other : ℕ) (kind rule : AsmKind) (h : IsFirstRefused text number kind) (g : IsFirstRefused text other rule) → IsBehind h.before g.before g.line → ⊥
not_before text number other kind rule h g r =
    none≢some rule (sym (h.kept g.before r.of r.after r.lines_are) ∙ (ap (fault_of (places_of text) g.before) (sym r.line_is) ∙ g.broken))

one_first : (text : List ℕ) (number other : ℕ) (kind rule : AsmKind) → IsFirstRefused text number kind → IsFirstRefused text other rule → asm.Line number kind ≡ asm.Line other rule
one_first text number other kind rule h g = elim (parted h.before g.before h.line g.line h.after g.after (sym h.lines ∙ g.lines)) [
  | inl r ↦ absurd (not_before text other number rule kind g h r)
  | inr (inl r) ↦ absurd (not_before text number other kind rule h g r)
  | inr (inr r) ↦
      let numbers : number ≡ other = h.number_is ∙ (ap (λ (xs : List Line). suc (length xs)) r.0 ∙ sym g.number_is) in
      let kinds = some_same kind rule (sym h.broken ∙ (ap₂ (fault_of (places_of text)) r.0 r.1 ∙ g.broken)) in
      ap₂ asm.Line numbers kinds
]

one_refusal : (text : List ℕ) (a b : AsmRefusal) → IsNoProgram text a → IsNoProgram text b → a ≡ b
one_refusal text (asm.Line number kind) (asm.Line other rule) h g = one_first text number other kind rule h g
one_refusal text (asm.Line number kind) (asm.TooLong words) h g = absurd (keeps_all text g.lines number kind g.program h)
one_refusal text (asm.TooLong words) (asm.Line number kind) h g = absurd (keeps_all text h.lines number kind h.program g)
one_refusal text (asm.TooLong words) (asm.TooLong more) h g =
    let same = same_lines h.lines g.lines (sym h.program.read ∙ g.program.read) in
    ap asm.TooLong (h.count ∙ (ap word_count same ∙ sym g.count))

-- ---- the command

module _ (c : Call) (word : ℕ) (text : List ℕ) (rom : Rom) (told : IsTold c word text) (n : NothingFailed c) (is : IsAssembled text rom) where
  lists : (ending : Ending) → IsWholly c ending → Assembles word c.old c.new ending → IsListed c (listing_of rom.words) ⊎ LacksMemory c
  lists endings.Written w h =
      let same : h.lists.text ≡ text = same_bytes c word text h.lists.text told h.lists.reads in
      let listing : h.listing ≡ listing_of rom.words = same_listing text h.listing rom is (subst (λ (t : List ℕ). IsListing t h.listing) same h.lists.is) in
      inl (record { outcome = w.outcome; puts = record { out = subst (Grew c.old.out c.new.out) listing h.put; err = w.line } })
  lists (endings.Refused (refusals.TooBig operand sum)) w h =
      let long : sum ≡ length text = length_told (c.old.files word) text sum told.told h.0.length_is in
      absurd (omega (arith, long, told.short, h.0.long))
  lists (endings.Refused (refusals.Asm refusal)) w h =
      let same : h.0.0 ≡ text = same_bytes c word text h.0.0 told h.0.1 in
      absurd (not_refused text rom refusal is (subst (λ (t : List ℕ). IsNoProgram t refusal) same h.0.2))
  lists (endings.Refused refusal) w h = absurd h.0
  lists endings.ReadFault w h = absurd (n.files word text told.told h.1)
  lists endings.WriteFault w h = absurd (n.out h.rose)
  lists endings.NoMemory w h = inr (record { outcome = w.outcome; quiet = h.1 })
  lists ending w h = absurd h

pub assembling_is_complete : AssemblingIsComplete
assembling_is_complete c word text rom command told n is = lists c word text rom told n is c.answered.ending (wholly c n) (executed c (Assemble word) command)

module _ (c : Call) (word : ℕ) (text : List ℕ) (refusal : AsmRefusal) (told : IsTold c word text) (n : NothingFailed c) (is : IsNoProgram text refusal) where
  answers : (ending : Ending) → IsWholly c ending → Assembles word c.old c.new ending → AnswersEnding c (endings.Refused (refusals.Asm refusal)) ⊎ LacksMemory c
  answers endings.Written w h =
      let same : h.lists.text ≡ text = same_bytes c word text h.lists.text told h.lists.reads in
      let listing : IsListing text h.listing = subst (λ (t : List ℕ). IsListing t h.listing) same h.lists.is in
      absurd (not_refused text listing.rom refusal listing.assembled is)
  answers (endings.Refused (refusals.TooBig operand sum)) w h =
      let long : sum ≡ length text = length_told (c.old.files word) text sum told.told h.0.length_is in
      absurd (omega (arith, long, told.short, h.0.long))
  answers (endings.Refused (refusals.Asm other)) w h =
      let same : h.0.0 ≡ text = same_bytes c word text h.0.0 told h.0.1 in
      let one = one_refusal text other refusal (subst (λ (t : List ℕ). IsNoProgram t other) same h.0.2) is in
      let says : AnswersEnding c (endings.Refused (refusals.Asm other)) = record { outcome = w.outcome; line = w.line; quiet = h.1 } in
      inl (subst (λ (r : AsmRefusal). AnswersEnding c (endings.Refused (refusals.Asm r))) one says)
  answers (endings.Refused other) w h = absurd h.0
  answers endings.ReadFault w h = absurd (n.files word text told.told h.1)
  answers endings.WriteFault w h = absurd (n.out h.rose)
  answers endings.NoMemory w h = inr (record { outcome = w.outcome; quiet = h.1 })
  answers ending w h = absurd h

pub refusals_are_answered : AsmRefusalsAreAnswered
refusals_are_answered c word text refusal command told n is = answers c word text refusal told n is c.answered.ending (wholly c n) (executed c (Assemble word) command)

pub refusals_are_one : AsmRefusalsAreOne
refusals_are_one text refusal is = (λ rom assembled. not_refused text rom refusal assembled is, λ other h. one_refusal text other refusal h is)
