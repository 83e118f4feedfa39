-- Lines that were taken begin a certificate of version 3, where those without prices begin a certificate.
use Rattle.std.proofs.Common.{◌≡◌, ◌≢◌, ℕ, List, [], ◌∷◌, ◌++◌, length, map, take, drop, append_assoc, append-nil, refl, sym, ◌∙◌, ap, subst, arith, Option, Some, None, inr}
use Rattle.std.specs.Prelude.{codes, flat_map}
use Rattle.std.specs.Option.{option_to_list}
use Rattle.std.proofs.lemmas.List.{length-append, take-append-drop, take-map, take_at}
use Rattle.std.proofs.lemmas.List.Elements.{All-nil}
use Rattle.lists.specs.Lists.{onto}
use Rattle.lists.proofs.Lemmas.{onto_some}
use Rattle.certificates.specs.declared.lines.line.CertLine.TheVariants.{Version, Root, Bound}
use Rattle.certificates.specs.declared.lines.line.SectionKind.TheVariants.{Alone}
use Rattle.certificates.specs.declared.cert.CertSection.{CertSection}
use Rattle.certificates.specs.CertLines.{line_text}
use Rattle.certificates.specs.Certificate.{Certificate}
use Rattle.certificates.specs.Texts.{said, lines_of, AreLinesOf, BeginOne}
use Rattle.certificates.specs.Drafts as draft
use Rattle.certificates.specs.Drafts.{Draft, never_with}
use Rattle.certificates.proofs.Running.{run, run-append, run_on, run_said, said_back, run_draft, rest_to, goal_of, run_rest, goal_in_grammar}
use Rattle.priced_cert.specs.declared.prices.RootPrice.{RootPrice}
use Rattle.priced_cert.specs.Prices.{ArePrices}
use Rattle.priced_cert.specs.Certificate.{PricedCertificate, IsPricedInGrammar}
use Rattle.priced_cert.specs.Texts.{version_line, priced_lines, BeginPriced}
use Rattle.priced_cert.specs.Parting.{Block, Parted, Blank, Versioned, Begun, Ended, plain_of_block, plain_of, TakeAll}
use Rattle.priced_cert.specs.Shown.{closed_prices}
use Rattle.priced_cert.proofs.KindLemmas.{map_both}
use Rattle.priced_cert.proofs.Taking.{take_one}
use Rattle.priced_cert.proofs.Orders.{no_root_prices}
use Rattle.priced_cert.proofs.Merging.{IsParted, lines_in, parted_all, texts_of, no_bound, sections_are, merged}

-- ---- how the lines without prices go on

-- what lines begin a certificate with, and the shortest certificate that goes on so
record GoesTo (ls : List (List ℕ)) : Type 0 where
  pub given : Draft
  pub whole : AreLinesOf (ls ++ map line_text (rest_to given)) (goal_of given)

goes_to : (ls : List (List ℕ)) → BeginOne ls → GoesTo ls
goes_to ls b =
    let c = b.certificate in
    let n = length ls in
    let es = take n (said c) in
    let gs = drop n (said c) in
    let split : es ++ gs ≡ said c = take-append-drop n (said c) in
    let first : ls ≡ map line_text es = sym (take_at ls b.further n refl) ∙ (ap (take n) b.whole.text ∙ take-map line_text n (said c)) in
    let leads : onto (run draft.Blank es) (λ t. run t gs) ≡ Some (draft.Whole c) = sym (run-append draft.Blank es gs) ∙ (ap (run draft.Blank) split ∙ run_said c) in
    let p = onto_some (run draft.Blank es) (λ t. run t gs) (draft.Whole c) leads in
    let d = p.0 in
    record {
      given = d;
      whole = record {
        grammar = goal_in_grammar d (run_draft d (draft.Whole c) gs p.2 b.whole.grammar);
        text = ap (λ (xs : List (List ℕ)). xs ++ map line_text (rest_to d)) first
            ∙ (sym (map_both es (rest_to d)) ∙ ap (map line_text) (said_back (goal_of d) (es ++ rest_to d) (run_on draft.Blank d es (rest_to d) p.1 ∙ run_rest d)));
      };
    }

-- ---- the shortest certificate

abbrev shortest : PricedCertificate
shortest = record { plain = never_with 2 0 []; root_prices = []; prices = [] }

shortest_in_grammar : IsPricedInGrammar shortest
shortest_in_grammar = record {
  plain = goal_in_grammar (draft.Versioned 2) (inr refl);
  version = refl;
  kinds = All-nil (λ (s : CertSection). s.kind ≢ Alone);
  root_prices = no_root_prices;
  each = refl;
  prices = All-nil ArePrices;
}

nothing_begins : BeginPriced []
nothing_begins = record { further = priced_lines shortest; certificate = shortest; whole = record { grammar = shortest_in_grammar; text = refl } }

version_begins : BeginPriced (version_line ∷ [])
version_begins = record {
  further = line_text (Root 0) ∷ line_text (Bound None) ∷ [];
  certificate = shortest;
  whole = record { grammar = shortest_in_grammar; text = refl };
}

-- ---- lines that were taken

-- behind the root a bound may stand
with_bound : (lines : List (List ℕ)) (r : List ℕ) (xs : List RootPrice) (cl : List Block) (cu : Option Block) (c : Certificate) → TakeAll Blank lines (Begun r xs cl cu)
    → AreLinesOf (plain_of (Begun r xs cl cu) ++ line_text (Bound None) ∷ []) c → BeginPriced lines
with_bound lines r xs cl cu c h a =
    let last = line_text (Bound None) in
    let next = Ended r xs (cl ++ option_to_list cu) last in
    let taken = take_one Blank (Begun r xs cl cu) next lines last h refl in
    let whole = merged (lines ++ last ∷ []) next c taken a in
    record { further = last ∷ []; certificate = record { plain = c; root_prices = xs; prices = closed_prices next }; whole = whole }

begun_goes : (lines : List (List ℕ)) (r : List ℕ) (xs : List RootPrice) (cl : List Block) (cu : Option Block) (d : Draft) → TakeAll Blank lines (Begun r xs cl cu)
    → IsParted (Begun r xs cl cu) → AreLinesOf (plain_of (Begun r xs cl cu) ++ map line_text (rest_to d)) (goal_of d) → BeginPriced lines
begun_goes lines r xs cl cu draft.Blank h p a =
    let long = ap length a.text in
    absurd (omega (arith, long, length-append (flat_map plain_of_block (cl ++ option_to_list cu)) (line_text (Version 1) ∷ line_text (Root 0) ∷ line_text (Bound None) ∷ [])))
begun_goes lines r xs cl cu (draft.Versioned v) h p a =
    let long = ap length a.text in
    absurd (omega (arith, long, length-append (flat_map plain_of_block (cl ++ option_to_list cu)) (line_text (Root 0) ∷ line_text (Bound None) ∷ [])))
begun_goes lines r xs cl cu (draft.Begun v root ds cv) h p a = with_bound lines r xs cl cu (never_with v root (ds ++ option_to_list cv)) h a
begun_goes lines r xs cl cu (draft.Whole c) h p a =
    let blocks = flat_map plain_of_block (cl ++ option_to_list cu) in
    let whole : codes "JOPC 2" ∷ r ∷ (blocks ++ []) ≡ line_text (Version c.version) ∷ line_text (Root c.root) ∷ texts_of c.sections c.bound = a.text in
    let later : blocks ++ [] ≡ texts_of c.sections c.bound = cc in
    absurd (no_bound (cl ++ option_to_list cu) c.sections c.bound p.1 (sym (append-nil blocks) ∙ later))

-- behind the last line there is none
ended_goes : (lines : List (List ℕ)) (r : List ℕ) (xs : List RootPrice) (bs : List Block) (bound : List ℕ) → TakeAll Blank lines (Ended r xs bs bound) → IsParted (Ended r xs bs bound)
    → BeginOne (plain_of (Ended r xs bs bound)) → BeginPriced lines
ended_goes lines r xs bs bound h p b =
    let c = b.certificate in
    let whole : codes "JOPC 2" ∷ r ∷ ((flat_map plain_of_block bs ++ bound ∷ []) ++ b.further) ≡ line_text (Version c.version) ∷ line_text (Root c.root) ∷ texts_of c.sections c.bound = b.whole.text in
    let later : (flat_map plain_of_block bs ++ bound ∷ []) ++ b.further ≡ texts_of c.sections c.bound = cc in
    let s = sections_are bs bound b.further c.sections c.bound p.1 p.2 (sym (append_assoc (flat_map plain_of_block bs) (bound ∷ []) b.further) ∙ later) in
    let text : plain_of (Ended r xs bs bound) ≡ lines_of c =
    sym (append-nil (plain_of (Ended r xs bs bound))) ∙ (ap (λ (f : List (List ℕ)). plain_of (Ended r xs bs bound) ++ f) (sym s.none) ∙ b.whole.text) in
    let all = merged lines (Ended r xs bs bound) c h (record { grammar = b.whole.grammar; text = text }) in
    record {
      further = [];
      certificate = record { plain = c; root_prices = xs; prices = closed_prices (Ended r xs bs bound) };
      whole = record { grammar = all.grammar; text = append-nil lines ∙ all.text };
    }

by_stage : (w : Parted) (lines : List (List ℕ)) → TakeAll Blank lines w → IsParted w → lines_in w ≡ lines → BeginOne (plain_of w) → BeginPriced lines
by_stage Blank lines h p e b = subst BeginPriced e nothing_begins
by_stage Versioned lines h p e b = subst BeginPriced e version_begins
by_stage (Begun r xs cl cu) lines h p e b = let g = goes_to (plain_of (Begun r xs cl cu)) b in begun_goes lines r xs cl cu g.given h p g.whole
by_stage (Ended r xs bs bound) lines h p e b = ended_goes lines r xs bs bound h p b

pub begins_priced : (lines : List (List ℕ)) (w : Parted) → TakeAll Blank lines w → BeginOne (plain_of w) → BeginPriced lines
begins_priced lines w h b = let p = parted_all Blank w lines tt h in by_stage w lines h p.0 p.1 b
