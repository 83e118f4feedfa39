-- What is read of the lines without prices, and what follows of the text.
use Rattle.std.proofs.Common.{◌≡◌, ℕ, ◌-◌, true, false, List, [], ◌∷◌, ◌++◌, take, append-nil, sym, ◌∙◌, ap, subst, arith}
use Rattle.std.specs.Prelude.{◌≢◌, All}
use Rattle.std.proofs.lemmas.List.{take_at}
use Rattle.std.proofs.lemmas.List.Elements.{All-nil, All-cons, All-head, All-tail, recursion_from_All}
use Rattle.ascii_text.specs.Line.{lines_of as text_lines}
use Rattle.ascii_text.proofs.LineLemmas.{AreLines-lines_of}
use Rattle.certificates.specs.Certificate.{Certificate}
use Rattle.certificates.specs.Texts.{AreLinesOf, IsFirstRefusedLine}
use Rattle.priced_cert.specs.declared.prices.Price.{Price}
use Rattle.priced_cert.specs.declared.prices.RootPrice.{RootPrice}
use Rattle.priced_cert.specs.declared.reader.Front.{Front}
use Rattle.priced_cert.specs.Texts.{ArePricedLinesOf, IsFirstUnpricedLine}
use Rattle.priced_cert.specs.Parting.{Blank, plain_of}
use Rattle.priced_cert.specs.Shown.{root_prices_of}
use Rattle.priced_cert.specs.Fronts.{IsStop, IsFront, nth_plain}
use Rattle.priced_cert.proofs.TextLemmas.{HasNoFeed, HaveNoFeed, lines_back}
use Rattle.priced_cert.proofs.Merging.{merged}
use Rattle.priced_cert.proofs.Stops.{adds_all, refused_plain, refused_behind, stops_there}

front_clean : (xs ys : List (List ℕ)) → HaveNoFeed (xs ++ ys) → HaveNoFeed xs
front_clean [] ys h = All-nil HasNoFeed
front_clean (x ∷ xs) ys h = All-cons HasNoFeed x xs (All-head HasNoFeed x (xs ++ ys) h) (front_clean xs ys (All-tail HasNoFeed x (xs ++ ys) h))

each_clean : (ls : List (List ℕ)) → All (All (λ byte. byte ≢ 10)) ls → HaveNoFeed ls
each_clean [] h = All-nil HasNoFeed
each_clean (l ∷ ls) h =
    All-cons HasNoFeed l ls (recursion_from_All (λ byte. byte ≢ 10) l (All-head (All (λ byte. byte ≢ 10)) l ls h)) (each_clean ls (All-tail (All (λ byte. byte ≢ 10)) l ls h))

module _ (text : List ℕ) (f : Front) (r : IsFront (text_lines text) f) where
  -- the lines of the text without prices are those that were taken
  plain_read : text_lines f.parting.plain.items ≡ plain_of r.parted
  plain_read =
      let all = adds_all Blank r.parted r.taken r.takes in
      let clean : HaveNoFeed r.taken = front_clean r.taken r.left (subst HaveNoFeed r.split (each_clean (text_lines text) (AreLines-lines_of text).no_line_feed)) in
      ap text_lines r.shows.plain ∙ lines_back (plain_of r.parted) (subst HaveNoFeed (sym all.plain) (all.clean clean))

  pub read_whole : f.whole ≡ true → (c : Certificate) → AreLinesOf (text_lines f.parting.plain.items) c
      → ArePricedLinesOf (text_lines text) (record { plain = c; root_prices = f.parting.root_prices.items; prices = f.parting.closed.items })
  read_whole whole c a =
      let none : r.left ≡ [] = subst (IsStop r.parted r.left) whole r.stop in
      let all : text_lines text ≡ r.taken = r.split ∙ (ap (λ (ls : List (List ℕ)). r.taken ++ ls) none ∙ append-nil r.taken) in
      let m = merged r.taken r.parted c r.takes (subst (λ (ls : List (List ℕ)). AreLinesOf ls c) plain_read a) in
      subst (λ (ls : List (List ℕ)). ArePricedLinesOf ls (record { plain = c; root_prices = f.parting.root_prices.items; prices = f.parting.closed.items })) (sym all)
      (subst (λ (xs : List RootPrice). ArePricedLinesOf r.taken (record { plain = c; root_prices = xs; prices = f.parting.closed.items })) (sym r.shows.root_prices)
      (subst (λ (ps : List (List Price)). ArePricedLinesOf r.taken (record { plain = c; root_prices = root_prices_of r.parted; prices = ps })) (sym r.shows.closed) m))

  pub read_stopped : f.whole ≡ false → (c : Certificate) → AreLinesOf (text_lines f.parting.plain.items) c → IsFirstUnpricedLine (text_lines text) f.next
  read_stopped whole c a =
      subst (IsFirstUnpricedLine (text_lines text)) (sym r.next)
      (refused_behind (text_lines text) r.taken r.left r.parted f.whole r.split r.takes r.stop (stops_there r.parted r.left (subst (IsStop r.parted r.left) whole r.stop)) c
      (subst (λ (ls : List (List ℕ)). AreLinesOf ls c) plain_read a))

  pub read_refused : (n : ℕ) → IsFirstRefusedLine (text_lines f.parting.plain.items) n → IsFirstUnpricedLine (text_lines text) (nth_plain n (take (f.next - 1) (text_lines text)))
  read_refused n h =
      let front : take (f.next - 1) (text_lines text) ≡ r.taken = ap (take (f.next - 1)) r.split ∙ take_at r.taken r.left (f.next - 1) (omega (arith, r.next)) in
      subst (λ (ls : List (List ℕ)). IsFirstUnpricedLine (text_lines text) (nth_plain n ls)) (sym front)
      (refused_plain (text_lines text) r.taken r.left r.parted f.whole r.split r.takes r.stop n (subst (λ (ls : List (List ℕ)). IsFirstRefusedLine ls n) plain_read h))
