-- Lists of types of local variables: words that are written, and words that are forgotten.
use Rattle.std.proofs.Common.{◌≡◌, ℕ, zero, suc, ◌+◌, ◌-◌, ◌<◌, ◌≤◌, Bool, true, false, List, [], ◌∷◌, ◌++◌, length, map, take, drop, drop-cons, get_or, replicate, append_assoc, Result, Ok, Err, add-zero, add-one, zero-add, Some, refl, sym, ap, ap₂, ◌∙◌, subst, arith}
use Rattle.std.specs.Prelude.{slice_get, slice_set, if◌then◌else◌, OnOk}
use Rattle.std.specs.Option.{option_map_or}
use Rattle.std.proofs.lemmas.List.{append-nil, length-append, map-append, take-append-drop, length-take-le}
use Rattle.std.proofs.Math.ListN.{drop_of_length-le}
use Rattle.std.proofs.Math.Seq.{take-append_seam, take-suc, take-length}
use Rattle.class_pool.specs.declared.class.ClassFile.{ClassFile}
use Rattle.class_pool.specs.declared.entry.Entry.{Entry}
use Rattle.frame_types.specs.declared.steps.EntryType.{EntryType}
use Rattle.frame_types.specs.Steps.{named}
use Rattle.bytecode_typing.specs.Types.{VarType, Top, is_long_type}
use Rattle.lists.proofs.Lemmas.{some_same}
use Rattle.verifier_types.specs.declared.types.VarType as codes
use Rattle.verifier_types.specs.Seen.{type_seen, types_seen}
use Rattle.verifier_types.specs.Locals.{HasListsOf, LocalTable, filled, with_types, changed_types}
use Rattle.bytecode_verifier.specs.declared.names.Current.{Current}
use Rattle.bytecode_verifier.specs.Listed.{IsListed, IsListOf, words_of, starts_from, HasLocals, types_by}
use Rattle.bytecode_verifier.specs.Named.{type_by}
use Rattle.bytecode_verifier.proofs.FirstLemmas.{spread_append}

-- ---- words

pub count_append : (xs ys : List VarType) → length (words_of (xs ++ ys)) ≡ length (words_of xs) + length (words_of ys)
count_append xs ys = ap length (spread_append is_long_type Top xs ys) ∙ length-append (words_of xs) (words_of ys)

pub words_taken : (i : ℕ) (ts : List VarType) → take (length (words_of (take i ts))) (words_of ts) ≡ words_of (take i ts)
words_taken i ts =
    ap (λ l. take (length (words_of (take i ts))) (words_of l)) (sym (take-append-drop i ts))
    ∙ (ap (take (length (words_of (take i ts)))) (spread_append is_long_type Top (take i ts) (drop i ts)) ∙ take-append_seam (words_of (take i ts)) (words_of (drop i ts)))

-- ---- where they start

pub starts_append : (n : ℕ) (ts : List VarType) (t : VarType) → starts_from n (ts ++ t ∷ []) ≡ starts_from n ts ++ (n + length (words_of ts)) ∷ []
starts_append n [] t = ap (λ m. m ∷ []) (sym (add-zero n))
starts_append n (u ∷ us) t =
    let w = length (words_of (u ∷ [])) in
    let count = count_append (u ∷ []) us in
    let e : (n + w) + length (words_of us) ≡ n + length (words_of (u ∷ us)) = omega (arith, count) in
    ap (λ l. n ∷ l) (starts_append (n + w) us t ∙ ap (λ m. starts_from (n + w) us ++ m ∷ []) e)

pub starts_length : (n : ℕ) (ts : List VarType) → length (starts_from n ts) ≡ length ts
starts_length n [] = refl
starts_length n (t ∷ ts) = ap suc (starts_length (n + length (words_of (t ∷ []))) ts)

pub starts_at : (n : ℕ) (ts : List VarType) (i d : ℕ) → i < length ts → get_or (starts_from n ts) i d ≡ n + length (words_of (take i ts))
starts_at n [] i d h = absurd (omega (arith, h))
starts_at n (t ∷ ts) zero d h = sym (add-zero n)
starts_at n (t ∷ ts) (suc i) d h =
    let w = length (words_of (t ∷ [])) in
    let count = count_append (t ∷ []) (take i ts) in
    let e : (n + w) + length (words_of (take i ts)) ≡ n + length (words_of (t ∷ take i ts)) = omega (arith, count) in
    starts_at (n + w) ts i d (omega (arith, h)) ∙ e

pub starts_take : (n i : ℕ) (ts : List VarType) → take i (starts_from n ts) ≡ starts_from n (take i ts)
starts_take n zero [] = refl
starts_take n zero (t ∷ ts) = refl
starts_take n (suc i) [] = refl
starts_take n (suc i) (t ∷ ts) = ap (λ l. n ∷ l) (starts_take (n + length (words_of (t ∷ []))) i ts)

-- ---- a word is written

put_here : (k : ℕ) (ws : List VarType) (t : VarType) → slice_set (ws ++ replicate (suc k) Top) (length ws) t ≡ (ws ++ t ∷ []) ++ replicate k Top
put_here k [] t = refl
put_here k (w ∷ ws) t = ap (λ l. w ∷ l) (put_here k ws t)

pub write_filled : (n : ℕ) (ws : List VarType) (t : VarType) → length ws < n → slice_set (filled n ws) (length ws) t ≡ filled n (ws ++ t ∷ [])
write_filled n ws t h =
    let more = length-append ws (t ∷ []) in
    let k = n - length (ws ++ t ∷ []) in
    let e : n - length ws ≡ suc k = omega (arith, more, h) in
    ap (λ m. slice_set (ws ++ replicate m Top) (length ws) t) e ∙ put_here k ws t

pub top_filled : (n : ℕ) (ws : List VarType) → length ws < n → filled n (ws ++ Top ∷ []) ≡ filled n ws
top_filled n ws h =
    let more = length-append ws (Top ∷ []) in
    let k = n - length (ws ++ Top ∷ []) in
    let e : suc k ≡ n - length ws = omega (arith, more, h) in
    append_assoc ws (Top ∷ []) (replicate k Top) ∙ ap (λ m. ws ++ replicate m Top) e

append_case : (n : ℕ) (ws : List VarType) (t : VarType) (b : Bool) → length (ws ++ (if b then t ∷ Top ∷ [] else t ∷ [])) ≤ n → slice_set (filled n ws) (length ws) t ≡ filled n (ws ++ (if b then t ∷ Top ∷ [] else t ∷ []))
append_case n ws t true h =
    let more = length-append ws (t ∷ Top ∷ []) in
    let one = length-append ws (t ∷ []) in
    write_filled n ws t (omega (arith, more, h)) ∙ (sym (top_filled n (ws ++ t ∷ []) (omega (arith, more, one, h))) ∙ ap (filled n) (append_assoc ws (t ∷ []) (Top ∷ [])))
append_case n ws t false h = let more = length-append ws (t ∷ []) in write_filled n ws t (omega (arith, more, h))

-- of a type of one word or of two
pub append_filled : (n : ℕ) (ws : List VarType) (t : VarType) → length (ws ++ words_of (t ∷ [])) ≤ n → slice_set (filled n ws) (length ws) t ≡ filled n (ws ++ words_of (t ∷ []))
append_filled n ws t h = append_case n ws t (is_long_type t) h

-- ---- a word is forgotten

twice_here : (k : ℕ) (us : List VarType) (x y : VarType) → slice_set ((us ++ x ∷ []) ++ replicate k Top) (length us) y ≡ (us ++ y ∷ []) ++ replicate k Top
twice_here k [] x y = refl
twice_here k (u ∷ us) x y = ap (λ l. u ∷ l) (twice_here k us x y)

pub forget_filled : (n : ℕ) (ws : List VarType) (i : ℕ) → i < length ws → length ws ≤ n → slice_set (filled n (take (i + 1) ws)) i Top ≡ filled n (take i ws)
forget_filled n ws i h fits =
    let us = take i ws in
    let x = get_or ws i Top in
    let len : length us ≡ i = length-take-le i ws (omega (arith, h)) in
    let one = length-append us (x ∷ []) in
    let two = length-append us (Top ∷ []) in
    let k = n - length (us ++ x ∷ []) in
    let e : k ≡ n - length (us ++ Top ∷ []) = omega (arith, one, two) in
    ap (λ l. slice_set (filled n l) i Top) (ap (λ m. take m ws) (add-one i) ∙ take-suc ws i Top h)
    ∙ (ap (λ j. slice_set (filled n (us ++ x ∷ [])) j Top) (sym len)
    ∙ (twice_here k us x Top ∙ (ap (λ m. (us ++ Top ∷ []) ++ replicate m Top) e ∙ top_filled n us (omega (arith, len, h, fits)))))

-- ---- lists and others behind them

pub lists_again : (t : LocalTable) → HasListsOf t t
lists_again t = record { classes = refl; room = refl; others = []; lists = sym (append-nil t.lists) }

pub lists_same : (t u : LocalTable) → u ≡ t → HasListsOf t u
lists_same t u e = subst (HasListsOf t) (sym e) (lists_again t)

pub lists_kept : {A E : Type 0} (r : Result A E) (t : LocalTable) → OnOk r (HasListsOf t t)
lists_kept (Ok x) t = lists_again t
lists_kept (Err e) t = tt

pub lists_after : (t u v : LocalTable) → HasListsOf t u → HasListsOf u v → HasListsOf t v
lists_after t u v h k = record {
  classes = k.classes ∙ h.classes;
  room = k.room ∙ h.room;
  others = h.others ++ k.others;
  lists = k.lists ∙ (ap (λ ls. ls ++ k.others) h.lists ∙ append_assoc t.lists h.others k.others);
}

last_got : {A : Type 0} (ls more : List A) (x : A) → slice_get ((ls ++ x ∷ []) ++ more) (length ls) ≡ Some x
last_got [] more x = refl
last_got (l ∷ ls) more x = last_got ls more x

pub listed_last : (t : LocalTable) (n : ℕ) (types : List VarType) → n ≡ length t.lists → IsListed (record t { lists = t.lists ++ types ∷ [] }) n types
listed_last t n types e = λ more. ap (λ i. slice_get ((t.lists ++ types ∷ []) ++ more) i) e ∙ last_got t.lists more types

pub lists_with : (t u : LocalTable) (types : List VarType) → u ≡ with_types t types → HasListsOf t u
lists_with t u types e = record { classes = ap (λ (v : LocalTable). v.classes) e; room = ap (λ (v : LocalTable). v.max_locals) e; others = types ∷ []; lists = ap (λ (v : LocalTable). v.lists) e }

-- a list that is another one with a type changed
pub listed_changed : (t u : LocalTable) (n m i : ℕ) (x : VarType) (types : List VarType) → u ≡ with_types t (changed_types t n i x) → m ≡ length t.lists → IsListed t n types → IsListed u m (slice_set types i x)
listed_changed t u n m i x types e long l = λ more.
    let here : slice_get t.lists n ≡ Some types = ap (λ ls. slice_get ls n) (sym (append-nil t.lists)) ∙ l [] in
    ap (λ (v : LocalTable). slice_get (v.lists ++ more) m) e
    ∙ (listed_last t m (changed_types t n i x) long more ∙ ap (λ o. Some (option_map_or (λ ts. slice_set ts i x) o (filled t.max_locals []))) here)

pub taken_all : (n : ℕ) (xs : List VarType) → length xs ≡ n → take n xs ≡ xs
taken_all n xs e = ap (λ m. take m xs) (sym e) ∙ take-length xs

-- ---- local variables that are added and taken away

pub added : (t u : LocalTable) (c d : Current) (types : List VarType) (x : VarType) → length (words_of (types ++ x ∷ [])) ≤ t.max_locals → HasLocals t c types → u ≡ with_types t (changed_types t c.list c.words x) → d.list ≡ length t.lists
    → d.starts.items ≡ c.starts.items ++ c.words ∷ [] → d.words ≡ c.words + length (words_of (x ∷ [])) → HasLocals u d (types ++ x ∷ [])
added t u c d types x fits h e long starts words =
    let ws = words_of types in
    let all : words_of (types ++ x ∷ []) ≡ ws ++ words_of (x ∷ []) = spread_append is_long_type Top types (x ∷ []) in
    let count = count_append types (x ∷ []) in
    let room : u.max_locals ≡ t.max_locals = ap (λ (v : LocalTable). v.max_locals) e in
    let was = h.words in
    record {
      starts = starts ∙ (ap₂ (λ (l : List ℕ) (n : ℕ). l ++ n ∷ []) h.starts h.words ∙ (ap (λ n. starts_from 0 types ++ n ∷ []) (sym (zero-add (length ws))) ∙ sym (starts_append 0 types x)));
      words = words ∙ (ap (λ n. n + length (words_of (x ∷ []))) h.words ∙ sym count);
      fits = subst (λ (n : ℕ). length (words_of (types ++ x ∷ [])) ≤ n) (sym room) fits;
      list =
          let put : IsListed u d.list (slice_set (filled t.max_locals ws) c.words x) = listed_changed t u c.list d.list c.words x (filled t.max_locals ws) e long h.list in
          let here : slice_set (filled t.max_locals ws) c.words x ≡ filled u.max_locals (words_of (types ++ x ∷ [])) =
          ap (λ n. slice_set (filled t.max_locals ws) n x) h.words
          ∙ (append_filled t.max_locals ws x (subst (λ (l : List VarType). length l ≤ t.max_locals) all fits)
          ∙ (ap (filled t.max_locals) (sym all) ∙ ap (λ n. filled n (words_of (types ++ x ∷ []))) (sym room))) in
          subst (λ l. IsListed u d.list l) here put;
    }

pub chopped : (t u : LocalTable) (c d : Current) (types : List VarType) (kept : ℕ) → kept ≤ length types → HasLocals t c types → HasListsOf t u → d.starts.items ≡ take kept c.starts.items → d.words ≡ length (words_of (take kept types))
    → IsListed u d.list (filled t.max_locals (take (length (words_of (take kept types))) (words_of types))) → HasLocals u d (take kept types)
chopped t u c d types kept below h k starts words l =
    let ws = words_of (take kept types) in
    let fewer = count_append (take kept types) (drop kept types) in
    let whole = ap (λ (ts : List VarType). length (words_of ts)) (take-append-drop kept types) in
    let fits = h.fits in
    let room = k.room in
    record {
      starts = starts ∙ (ap (take kept) h.starts ∙ starts_take 0 kept types);
      words = words;
      fits = omega (arith, fewer, whole, fits, room);
      list = subst (λ x. IsListed u d.list x) (ap (filled t.max_locals) (words_taken kept types) ∙ ap (λ n. filled n ws) (sym k.room)) l;
    }

-- the first word of the local variable behind those that stay, or the end where all do
pub first_word : (t : LocalTable) (c : Current) (types : List VarType) (kept d : ℕ) → HasLocals t c types → kept < length types → get_or c.starts.items kept d ≡ length (words_of (take kept types))
first_word t c types kept d h lt = ap (λ (l : List ℕ). get_or l kept d) h.starts ∙ (starts_at 0 types kept d lt ∙ zero-add (length (words_of (take kept types))))

pub no_word : (t : LocalTable) (c : Current) (types : List VarType) (kept : ℕ) → HasLocals t c types → length types ≤ kept → kept ≤ length types → c.words ≡ length (words_of (take kept types))
no_word t c types kept h ge le = h.words ∙ ap (λ (ts : List VarType). length (words_of ts)) (sym (taken_all kept types (let a = ge in let b = le in omega (arith, a, b))))

pub starts_many : (t : LocalTable) (c : Current) (types : List VarType) → HasLocals t c types → length c.starts.items ≡ length types
starts_many t c types h = ap (λ (l : List ℕ). length l) h.starts ∙ starts_length 0 types

-- ---- entries, one after another

pub one_longer : (cs : List ClassFile) (pool : List Entry) (types : List VarType) (es : List EntryType) (i : ℕ) (d : EntryType) → i < length es → (t : VarType) → t ≡ type_by cs (named pool (get_or es i d))
    → (types ++ types_by cs (map (named pool) (take i es))) ++ t ∷ [] ≡ types ++ types_by cs (map (named pool) (take (i + 1) es))
one_longer cs pool types es i d lt t e =
    append_assoc types (types_by cs (map (named pool) (take i es))) (t ∷ [])
    ∙ ap (λ l. types ++ l)
    (ap (λ x. types_by cs (map (named pool) (take i es)) ++ x ∷ []) e
    ∙ sym (ap (λ n. types_by cs (map (named pool) (take n es))) (add-one i)
    ∙ (ap (λ l. types_by cs (map (named pool) l)) (take-suc es i d lt)
    ∙ (ap (types_by cs) (map-append (named pool) (take i es) (get_or es i d ∷ [])) ∙ map-append (type_by cs) (map (named pool) (take i es)) (named pool (get_or es i d) ∷ [])))))

-- what has room has it where less is added
pub front_fits : (cs : List ClassFile) (pool : List Entry) (types : List VarType) (es : List EntryType) (i n : ℕ) → length (words_of (types ++ types_by cs (map (named pool) es))) ≤ n → length (words_of (types ++ types_by cs (map (named pool) (take i es)))) ≤ n
front_fits cs pool types es i n fits =
    let all = types_by cs (map (named pool) es) in
    let front = types_by cs (map (named pool) (take i es)) in
    let back = types_by cs (map (named pool) (drop i es)) in
    let split : front ++ back ≡ all =
    sym (map-append (type_by cs) (map (named pool) (take i es)) (map (named pool) (drop i es)))
    ∙ (ap (types_by cs) (sym (map-append (named pool) (take i es) (drop i es))) ∙ ap (λ l. types_by cs (map (named pool) l)) (take-append-drop i es)) in
    let one = count_append types front in
    let two = count_append types all in
    let three = count_append front back in
    let four = ap (λ (l : List VarType). length (words_of l)) split in
    omega (arith, fits, one, two, three, four)

pub taken_entries : (es : List EntryType) (i : ℕ) → length es ≤ i → take i es ≡ es
taken_entries [] zero h = refl
taken_entries [] (suc i) h = refl
taken_entries (e ∷ es) zero h = absurd (omega (arith, h))
taken_entries (e ∷ es) (suc i) h = ap (λ l. e ∷ l) (taken_entries es i (omega (arith, h)))

pub fewer_words : (types : List VarType) (kept from end : ℕ) → from ≡ length (words_of (take kept types)) → end ≡ length (words_of types) → from ≤ end
fewer_words types kept from end e h =
    let count = count_append (take kept types) (drop kept types) in
    let whole = ap (λ (ts : List VarType). length (words_of ts)) (take-append-drop kept types) in
    omega (arith, e, h, count, whole)

-- ---- where types start, one after another

next_dropped : {A : Type 0} (xs : List A) (i : ℕ) (d : A) → i < length xs → drop i xs ≡ get_or xs i d ∷ drop (i + 1) xs
next_dropped xs i d h = drop-cons xs i d h ∙ ap (λ n. get_or xs i d ∷ drop n xs) (sym (add-one i))

pub start_pushed : (starts : List ℕ) (w next : ℕ) (types : List codes.VarType) (i : ℕ) (d : codes.VarType) → i < length types → next ≡ w + length (words_of (type_seen (get_or types i d) ∷ []))
    → (starts ++ w ∷ []) ++ starts_from next (types_seen (drop (i + 1) types)) ≡ starts ++ starts_from w (types_seen (drop i types))
start_pushed starts w next types i d lt e =
    append_assoc starts (w ∷ []) (starts_from next (types_seen (drop (i + 1) types)))
    ∙ ap (λ l. starts ++ l) (ap (λ n. w ∷ starts_from n (types_seen (drop (i + 1) types))) e ∙ sym (ap (λ l. starts_from w (types_seen l)) (next_dropped types i d lt)))

pub count_pushed : (w next : ℕ) (types : List codes.VarType) (i : ℕ) (d : codes.VarType) → i < length types → next ≡ w + length (words_of (type_seen (get_or types i d) ∷ []))
    → next + length (words_of (types_seen (drop (i + 1) types))) ≡ w + length (words_of (types_seen (drop i types)))
count_pushed w next types i d lt e =
    let rest = types_seen (drop (i + 1) types) in
    let t = type_seen (get_or types i d) in
    let count = count_append (t ∷ []) rest in
    let here : length (words_of (types_seen (drop i types))) ≡ length (words_of (t ∷ rest)) = ap (λ l. length (words_of (types_seen l))) (next_dropped types i d lt) in
    omega (arith, e, count, here)

pub starts_end : (starts : List ℕ) (w : ℕ) (types : List codes.VarType) (i : ℕ) → length types ≤ i → starts ++ starts_from w (types_seen (drop i types)) ≡ starts
starts_end starts w types i h = ap (λ l. starts ++ starts_from w (types_seen l)) (drop_of_length-le types h) ∙ append-nil starts

pub count_end : (w : ℕ) (types : List codes.VarType) (i : ℕ) → length types ≤ i → w + length (words_of (types_seen (drop i types))) ≡ w
count_end w types i h = ap (λ l. w + length (words_of (types_seen l))) (drop_of_length-le types h) ∙ add-zero w

-- ---- all local variables at once

pub all_listed : (t u : LocalTable) (c : Current) (types : List VarType) (number : ℕ) (words : List VarType) → words ≡ words_of types → c.list ≡ number → c.starts.items ≡ starts_from 0 types → c.words ≡ length (words_of types) → length (words_of types) ≤ t.max_locals → HasListsOf t u
    → IsListOf u (Some number) (Some (filled t.max_locals words)) → HasLocals u c types
all_listed t u c types number words e n starts count fits k l = record {
  starts = starts;
  words = count;
  fits = subst (λ (m : ℕ). length (words_of types) ≤ m) (sym k.room) fits;
  list =
      let here : l.0 ≡ filled u.max_locals (words_of types) = sym (some_same (filled t.max_locals words) l.0 l.1) ∙ (ap (filled t.max_locals) e ∙ ap (λ m. filled m (words_of types)) (sym k.room)) in
      subst (λ (m : ℕ). IsListed u m (filled u.max_locals (words_of types))) (sym n) (subst (λ ls. IsListed u number ls) here l.2);
}
