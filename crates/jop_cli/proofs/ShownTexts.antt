-- What a call of `link`, of `asm` or of `headers` shows that answers that its output is written.
use Rattle.std.proofs.Common.{◌≡◌, ℕ, List, sym, ◌∙◌, subst, inl, inr, ⊎_elim}
use Rattle.outside.specs.Outside.{Grew}
use Rattle.command_line.specs.declared.command.Command.TheVariants as commands
use Rattle.endings.specs.declared.outcome.Answer.TheVariants.{Text}
use Rattle.endings.specs.declared.outcome.Ending.{Ending}
use Rattle.endings.specs.declared.outcome.Ending.TheVariants as endings
use Rattle.endings.specs.declared.outcome.Outcome.TheVariants as outcomes
use Rattle.endings.specs.Line.{text_of_word}
use Rattle.endings.specs.Linking.{files_of, LinksRead}
use Rattle.ask_commands.specs.Assembling.{Assembles, PutsListing}
use Rattle.jop_cli.specs.Tasks.{heading}
use Rattle.jop_cli.specs.Answer.{outcome_of}
use Rattle.jop_cli.specs.Calls.{Call}
use Rattle.jop_cli.specs.promises.Link.{ShowsLinked, LinkedImagesAreShown}
use Rattle.jop_cli.specs.promises.Asm.{ListingsAreShown}
use Rattle.jop_cli.specs.promises.Headers.{HeadersAreShown}
use Rattle.jop_cli.proofs.Refusing.{not_written, operands_refuse}
use Rattle.jop_cli.proofs.Wholly.{IsWholly, wholly_written, executed}
use Rattle.jop_cli.proofs.Written.{opened, text_put}

written : (c : Call) → (is : c.outcome ≡ outcomes.Written) → outcome_of c.answered.ending ≡ outcomes.Written
written c is = let w = wholly_written c is in sym w.outcome ∙ is

-- ---- `link`

read_shows : (c : Call) (main first : ℕ) (e : Ending) → IsWholly c e → outcome_of e ≡ outcomes.Written → LinksRead (text_of_word c.words main) first c.old c.new e → ShowsLinked c main first
read_shows c main first (endings.Linked sizes) w is r = record { files = r.files; reads = r.reads; sizes = sizes; image = r.put; line = w.line }
read_shows c main first endings.Written w is r = absurd r.put.0
read_shows c main first e w is r = absurd (cc)

pub linked_images_are_shown : LinkedImagesAreShown
linked_images_are_shown c main first command is =
    let e = c.answered.ending in
    ⊎_elim
    (λ fault. absurd (not_written e (operands_refuse first c.old.words (files_of c.old) (files_of c.new) e fault.0) (written c is)))
    (λ r. read_shows c main first e (wholly_written c is) (written c is) r)
    (executed c (commands.Link main first) command)

-- ---- `asm`

listing_shows : (c : Call) (word : ℕ) (e : Ending) → outcome_of e ≡ outcomes.Written → Assembles word c.old c.new e → PutsListing word c.old c.new
listing_shows c word endings.Written is h = h
listing_shows c word (endings.Linked sizes) is h = absurd h
listing_shows c word e is h = absurd (cc)

pub listings_are_shown : ListingsAreShown
listings_are_shown c word command is = listing_shows c word c.answered.ending (written c is) (executed c (commands.Asm word) command)

-- ---- `headers`

pub headers_are_shown : HeadersAreShown
headers_are_shown c image operands command is =
    let p = text_put c (heading image operands) is (executed c (commands.Headers image operands) command) in
    record {
      files = p.operands;
      are = p.are;
      shows = ⊎_elim
          (λ a. inl (record { linked = a.linked; opened = opened c (heading image operands) p.operands (Text p.text) a; text = p.text.items; lines = a.answers; put = p.put }))
          (λ b. inr (record { image = b.image; bare = b.bare; put = subst (λ (x : List ℕ). Grew c.old.out c.new.out x) b.answers.says p.put }))
          p.answers;
    }
