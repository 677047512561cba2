-- What is read byte by byte is what the lines of the text have.
use Rattle.std.proofs.Common.{lit≤, ◌≡◌, ◌⊎◌, ℕ, ◌<◌, ◌≤◌, Bool, true, false, cond, eqb, List, [], ◌∷◌, ◌++◌, length, Option, Some, None, refl, sym, ap, ◌∙◌, subst, inl, inr, arith, append-nil, append_assoc, length-append, ⊎_elim}
use Rattle.std.specs.Prelude.{codes, nat_lt}
use Rattle.std.specs.List.{concat}
use Rattle.std.specs.Option.{option_to_list}
use Rattle.std.specs.Str.{bytes_eq}
use Rattle.std.proofs.lemmas.Bool.Decides.{nat_tests}
use Rattle.std.proofs.lemmas.Slice.Eq.{bytes_eq-Decides}
use Rattle.script_text.specs.Grammar.{most_bytes}
use Rattle.script_text.specs.Lines.{ended_lines, onto_first, without_end}
use Rattle.board_lines.specs.declared.control_item.ControlItem.{ControlItem}
use Rattle.board_lines.specs.declared.control_item.ControlItem.TheVariants.{Line, TooLong, Policy}
use Rattle.board_lines.specs.ControlItems.{Control, Text, is_new_policy, items_in, items_of, line_item, next_number, policy_item}
use Rattle.board_lines.specs.KeptTexts.{Kept, keep, kept_text, nothing_kept}
use Rattle.board_lines.specs.Laws.{AnyFirstLine, AnyPieces, BeginsAt, EndsAt, GoesOnAt, given_by, given_of, held_behind}
use Rattle.board_lines.specs.Readings.{Reading, beginning, beginning_at, behind, behind_end, is_end, item_at, item_at_end, item_of_rest, items_from, last_text, line_kept, longer, text_ahead}
use Rattle.board_lines.proofs.Kept.{during, during_ahead, during_line, during_more}

-- ---- lines

-- no line feed
abbrev HasNoFeed : List ℕ → Type 0
HasNoFeed [] = Unit {0}
HasNoFeed (b ∷ bs) = (eqb b 10 ≡ false) × HasNoFeed bs

no_feed_more : (l : List ℕ) (b : ℕ) → HasNoFeed l → eqb b 10 ≡ false → HasNoFeed (l ++ b ∷ [])
no_feed_more [] b h e = (e, tt)
no_feed_more (a ∷ ts) b h e = (h.0, no_feed_more ts b h.1 e)

line_first : (l bs : List ℕ) → HasNoFeed l → ended_lines (l ++ 10 ∷ bs) ≡ (l ++ 10 ∷ []) ∷ ended_lines bs
line_first [] bs h = refl
line_first (a ∷ ts) bs h = ap (λ t. cond t ((a ∷ []) ∷ ended_lines (ts ++ 10 ∷ bs)) (onto_first a (ended_lines (ts ++ 10 ∷ bs)))) h.0 ∙ ap (onto_first a) (line_first ts bs h.1)

line_last : (a : ℕ) (ts : List ℕ) → HasNoFeed (a ∷ ts) → ended_lines (a ∷ ts) ≡ (a ∷ ts) ∷ []
line_last a [] h = ap (λ t. cond t ((a ∷ []) ∷ []) ((a ∷ []) ∷ [])) h.0
line_last a (b ∷ bs) h = ap (λ t. cond t ((a ∷ []) ∷ ended_lines (b ∷ bs)) (onto_first a (ended_lines (b ∷ bs)))) h.0 ∙ ap (onto_first a) (line_last b bs h.1)

ended_line : (l : List ℕ) → HasNoFeed l → without_end (l ++ 10 ∷ []) ≡ l
ended_line [] h = refl
ended_line (a ∷ ts) h = ap (λ t. cond t [] (a ∷ without_end (ts ++ 10 ∷ []))) h.0 ∙ ap (λ l. a ∷ l) (ended_line ts h.1)

plain_line : (l : List ℕ) → HasNoFeed l → without_end l ≡ l
plain_line [] h = refl
plain_line (a ∷ ts) h = ap (λ t. cond t [] (a ∷ without_end ts)) h.0 ∙ ap (λ l. a ∷ l) (plain_line ts h.1)

-- ---- what is held of a line

-- all of it, or of a line that is too long more than 8,192 bytes
abbrev IsHeld : List ℕ → List ℕ → Type 0
IsHeld l h = (h ≡ l) ⊎ ((most_bytes < length l) × (most_bytes < length h))

held_more : (l h : List ℕ) (b : ℕ) → IsHeld l h → IsHeld (l ++ b ∷ []) (longer h b)
held_more l h b is = ⊎_elim same long is
  where
    at : (t : Bool) → nat_lt most_bytes (length l) ≡ t → IsHeld (l ++ b ∷ []) (cond t l (l ++ b ∷ []))
    at true e = let k : most_bytes < length l = grind (arith, nat_tests) in inr (omega (arith, k, length-append l (b ∷ [])), k)
    at false e = inl refl

    same : h ≡ l → IsHeld (l ++ b ∷ []) (longer h b)
    same e = subst (λ x. IsHeld (l ++ b ∷ []) (longer x b)) (sym e) (at (nat_lt most_bytes (length l)) refl)

    long : (most_bytes < length l) × (most_bytes < length h) → IsHeld (l ++ b ∷ []) (longer h b)
    long k =
        let t : nat_lt most_bytes (length h) ≡ true = grind (arith, nat_tests, k.1) in
        subst (λ v. IsHeld (l ++ b ∷ []) (cond v h (h ++ b ∷ []))) (sym t) (inr (omega (arith, k.0, length-append l (b ∷ [])), k.1))

-- a long line is no short word
no_word : (l w : List ℕ) → length w ≤ most_bytes → most_bytes < length l → bytes_eq l w ≡ false
no_word l w few many = go (bytes_eq l w) refl
  where
    go : (b : Bool) → bytes_eq l w ≡ b → b ≡ false
    go false e = refl
    go true e = let same : length l ≡ length w = ap length ((bytes_eq-Decides l w).0 e) in absurd (omega (arith, same, few, many))

held_word : (w l h : List ℕ) → length w ≤ most_bytes → IsHeld l h → bytes_eq h w ≡ bytes_eq l w
held_word w l h few is = ⊎_elim (λ e. ap (λ x. bytes_eq x w) e) (λ k. no_word h w few k.1 ∙ sym (no_word l w few k.0)) is

pub held_new : (l h : List ℕ) → IsHeld l h → is_new_policy h ≡ is_new_policy l
held_new l h is = held_word (codes "newpolicy") l h (lit≤ tt) is

pub held_end : (l h : List ℕ) → IsHeld l h → is_end h ≡ is_end l
held_end l h is = held_word (codes "%%") l h (lit≤ tt) is

long_item : (n : ℕ) (l : List ℕ) → most_bytes < length l → line_item n l ≡ TooLong n
long_item n l many = let t : nat_lt most_bytes (length l) ≡ true = grind (arith, nat_tests) in ap (λ v. cond v (TooLong n) (Line n l)) t

held_item : (n : ℕ) (l h : List ℕ) → IsHeld l h → line_item n h ≡ line_item n l
held_item n l h is = ⊎_elim (λ e. ap (line_item n) e) (λ k. long_item n h k.1 ∙ sym (long_item n l k.0)) is

is_feed : (b : ℕ) → eqb b 10 ≡ true → b ≡ 10
is_feed b e = grind (arith, nat_tests)

-- ---- byte by byte

abbrev reading : ℕ → List ℕ → Option ℕ → Kept → Reading
reading n line policy kept = record { number = n; line = line; policy = policy; kept = kept }

-- behind a part of a line, what is given of these bytes is what the lines have
abbrev ReadsControl : List ℕ → Type 0
ReadsControl bs =
    (l h : List ℕ) (n : ℕ) (kept : Kept) → HasNoFeed l → IsHeld l h → items_from (reading n h None kept) bs ≡ items_in Control n (ended_lines (l ++ bs))

abbrev ReadsText : List ℕ → Type 0
ReadsText bs =
    (l h text : List ℕ) (n k : ℕ) → HasNoFeed l → IsHeld l h → items_from (reading n h (Some k) (during text l)) bs ≡ items_in (Text k text) n (ended_lines (l ++ bs))

held_none : (h : List ℕ) → IsHeld [] h → h ≡ []
held_none h is = ⊎_elim (λ e. e) (λ k. absurd (omega (arith, k.0))) is

held_some : (a : ℕ) (ts h : List ℕ) → IsHeld (a ∷ ts) h → 0 < length h
held_some a ts h is = ⊎_elim (λ e. let k = ap length e in omega (arith, k)) (λ k. omega (arith, k.1)) is

rest_item : (n : ℕ) (h : List ℕ) → 0 < length h → item_of_rest n h ≡ cond (is_new_policy h) (Some (Policy n [])) (Some (line_item n h))
rest_item n [] some = absurd (omega (arith, some))
rest_item n (a ∷ ts) some = refl

one_of : (t : Bool) (x y : ControlItem) → option_to_list (cond t (Some x) (Some y)) ≡ cond t (x ∷ []) (y ∷ [])
one_of true x y = refl
one_of false x y = refl

control_end : ReadsControl []
control_end [] h n kept f is = ap (λ x. option_to_list (item_of_rest n x)) (held_none h is)
control_end (a ∷ ts) h n kept f is =
    let l = a ∷ ts in
    let left : option_to_list (item_of_rest n h) ≡ cond (is_new_policy l) (Policy n [] ∷ []) (line_item n l ∷ []) =
    ap option_to_list (rest_item n h (held_some a ts h is)) ∙ one_of (is_new_policy h) (Policy n []) (line_item n h)
    ∙ ap (λ t. cond t (Policy n [] ∷ []) (line_item n h ∷ [])) (held_new l h is) ∙ ap (λ i. cond (is_new_policy l) (Policy n [] ∷ []) (i ∷ [])) (held_item n l h is) in
    let right : items_in Control n (ended_lines (l ++ [])) ≡ cond (is_new_policy l) (Policy n [] ∷ []) (line_item n l ∷ []) =
    ap (λ x. items_in Control n (ended_lines x)) (append-nil l) ∙ ap (items_in Control n) (line_last a ts f)
    ∙ ap (λ x. cond (is_new_policy x) (Policy n [] ∷ []) (line_item n x ∷ [])) (plain_line l f) in
    left ∙ sym right

text_end : ReadsText []
text_end [] h text n k f is =
    ap (λ x. Policy k (last_text x (during text [])) ∷ []) (held_none h is) ∙ ap (λ x. Policy k (kept_text x) ∷ []) (append-nil text)
text_end (a ∷ ts) h text n k f is =
    let l = a ∷ ts in
    let left : last_text h (during text l) ≡ cond (is_end l) (kept_text text) (kept_text (text ++ l)) =
    ap (λ t. cond t (text_ahead (during text l)) (kept_text (text ++ l))) (held_end l h is) ∙ ap (λ x. cond (is_end l) x (kept_text (text ++ l))) (during_ahead text l) in
    let right : items_in (Text k text) n (ended_lines (l ++ [])) ≡ cond (is_end l) (Policy k (kept_text text) ∷ []) (Policy k (kept_text (text ++ l)) ∷ []) =
    ap (λ x. items_in (Text k text) n (ended_lines x)) (append-nil l) ∙ ap (items_in (Text k text) n) (line_last a ts f)
    ∙ ap (λ x. cond (is_end x) (Policy k (kept_text text) ∷ []) (Policy k (kept_text (text ++ l)) ∷ [])) (plain_line l f) in
    ap (λ x. Policy k x ∷ []) left ∙ either (is_end l) (kept_text text) (kept_text (text ++ l)) ∙ sym right
  where
    either : (t : Bool) (x y : List ℕ) → Policy k (cond t x y) ∷ [] ≡ cond t (Policy k x ∷ []) (Policy k y ∷ [])
    either true x y = refl
    either false x y = refl

module _ (b : ℕ) (bs : List ℕ) (control : ReadsControl bs) (text_of : ReadsText bs) where
  -- the line feed of a line
  control_feed : (l h : List ℕ) (n : ℕ) (kept : Kept) → HasNoFeed l → IsHeld l h → (t : Bool) → is_new_policy l ≡ t
      → option_to_list (item_at_end None (reading n h None kept)) ++ items_from (behind_end None (reading n h None kept)) bs
      ≡ cond t (items_in (Text n []) (next_number n) (ended_lines bs)) (line_item n l ∷ items_in Control (next_number n) (ended_lines bs))
  control_feed l h n kept f is t e =
      ap (λ v. option_to_list (cond v None (Some (line_item n h))) ++ items_from (cond v (reading (next_number n) [] (Some n) nothing_kept) (reading (next_number n) [] None kept)) bs) (held_new l h is ∙ e)
      ∙ by t
    where
      by : (v : Bool) → option_to_list (cond v None (Some (line_item n h))) ++ items_from (cond v (reading (next_number n) [] (Some n) nothing_kept) (reading (next_number n) [] None kept)) bs
          ≡ cond v (items_in (Text n []) (next_number n) (ended_lines bs)) (line_item n l ∷ items_in Control (next_number n) (ended_lines bs))
      by true = text_of [] [] [] (next_number n) n tt (inl refl)
      by false = ap (λ i. i ∷ items_from (reading (next_number n) [] None kept) bs) (held_item n l h is) ∙ ap (λ x. line_item n l ∷ x) (control [] [] (next_number n) kept tt (inl refl))

  control_byte : ReadsControl (b ∷ bs)
  control_byte l h n kept f is = go (eqb b 10) refl
    where
      go : (t : Bool) → eqb b 10 ≡ t → items_from (reading n h None kept) (b ∷ bs) ≡ items_in Control n (ended_lines (l ++ b ∷ bs))
      go false e =
          ap (λ v. option_to_list (cond v (item_at_end None (reading n h None kept)) None) ++ items_from (cond v (behind_end None (reading n h None kept)) (reading n (longer h b) None kept)) bs) e
          ∙ control (l ++ b ∷ []) (longer h b) n kept (no_feed_more l b f e) (held_more l h b is) ∙ ap (λ x. items_in Control n (ended_lines x)) (append_assoc l (b ∷ []) bs)
      go true e =
          ap (λ v. option_to_list (cond v (item_at_end None (reading n h None kept)) None) ++ items_from (cond v (behind_end None (reading n h None kept)) (reading n (longer h b) None kept)) bs) e
          ∙ control_feed l h n kept f is (is_new_policy l) refl
          ∙ sym (
          ap (λ x. items_in Control n (ended_lines (l ++ x ∷ bs))) (is_feed b e) ∙ ap (items_in Control n) (line_first l bs f)
          ∙ ap (λ x. cond (is_new_policy x) (items_in (Text n []) (next_number n) (ended_lines bs)) (line_item n x ∷ items_in Control (next_number n) (ended_lines bs))) (ended_line l f)
          )

  text_feed : (l h text : List ℕ) (n k : ℕ) → HasNoFeed l → IsHeld l h
      → option_to_list (item_at_end (Some k) (reading n h (Some k) (during text l))) ++ items_from (behind_end (Some k) (reading n h (Some k) (during text l))) bs
      ≡ cond (is_end l) (policy_item k text ∷ items_in Control (next_number n) (ended_lines bs)) (items_in (Text k (text ++ (l ++ 10 ∷ []))) (next_number n) (ended_lines bs))
  text_feed l h text n k f is =
      ap (λ v. option_to_list (cond v (Some (Policy k (text_ahead (during text l)))) None) ++ items_from (cond v (reading (next_number n) [] None nothing_kept) (reading (next_number n) [] (Some k) (line_kept (keep (during text l) 10)))) bs) (held_end l h is)
      ∙ by (is_end l)
    where
      kept : line_kept (keep (during text l) 10) ≡ during (text ++ (l ++ 10 ∷ [])) []
      kept = ap line_kept (during_more text l 10) ∙ during_line text (l ++ 10 ∷ [])

      by : (v : Bool) → option_to_list (cond v (Some (Policy k (text_ahead (during text l)))) None) ++ items_from (cond v (reading (next_number n) [] None nothing_kept) (reading (next_number n) [] (Some k) (line_kept (keep (during text l) 10)))) bs
          ≡ cond v (policy_item k text ∷ items_in Control (next_number n) (ended_lines bs)) (items_in (Text k (text ++ (l ++ 10 ∷ []))) (next_number n) (ended_lines bs))
      by true =
          ap (λ x. Policy k x ∷ items_from (reading (next_number n) [] None nothing_kept) bs) (during_ahead text l)
          ∙ ap (λ x. policy_item k text ∷ x) (control [] [] (next_number n) nothing_kept tt (inl refl))
      by false = ap (λ x. items_from (reading (next_number n) [] (Some k) x) bs) kept ∙ text_of [] [] (text ++ (l ++ 10 ∷ [])) (next_number n) k tt (inl refl)

  text_byte : ReadsText (b ∷ bs)
  text_byte l h text n k f is = go (eqb b 10) refl
    where
      go : (t : Bool) → eqb b 10 ≡ t → items_from (reading n h (Some k) (during text l)) (b ∷ bs) ≡ items_in (Text k text) n (ended_lines (l ++ b ∷ bs))
      go false e =
          ap (λ v. option_to_list (cond v (item_at_end (Some k) (reading n h (Some k) (during text l))) None) ++ items_from (cond v (behind_end (Some k) (reading n h (Some k) (during text l))) (reading n (longer h b) (Some k) (keep (during text l) b))) bs) e
          ∙ ap (λ x. items_from (reading n (longer h b) (Some k) x) bs) (during_more text l b)
          ∙ text_of (l ++ b ∷ []) (longer h b) text n k (no_feed_more l b f e) (held_more l h b is) ∙ ap (λ x. items_in (Text k text) n (ended_lines x)) (append_assoc l (b ∷ []) bs)
      go true e =
          ap (λ v. option_to_list (cond v (item_at_end (Some k) (reading n h (Some k) (during text l))) None) ++ items_from (cond v (behind_end (Some k) (reading n h (Some k) (during text l))) (reading n (longer h b) (Some k) (keep (during text l) b))) bs) e
          ∙ text_feed l h text n k f is
          ∙ sym (
          ap (λ x. items_in (Text k text) n (ended_lines (l ++ x ∷ bs))) (is_feed b e) ∙ ap (items_in (Text k text) n) (line_first l bs f)
          ∙ ap (λ x. cond (is_end x) (policy_item k text ∷ items_in Control (next_number n) (ended_lines bs)) (items_in (Text k (text ++ (l ++ 10 ∷ []))) (next_number n) (ended_lines bs))) (ended_line l f)
          )

reads : (bs : List ℕ) → ReadsControl bs × ReadsText bs
reads [] = (control_end, text_end)
reads (b ∷ bs) = let h = reads bs in (control_byte b bs h.0 h.1, text_byte b bs h.0 h.1)

-- ---- the laws

pub begins_at : BeginsAt
begins_at rest = sym ((reads rest).0 [] [] 1 nothing_kept tt (inl refl))

pub goes_on_at : GoesOnAt
goes_on_at text given r b at rest =
    ap items_of (append_assoc text (b ∷ []) rest) ∙ at (b ∷ rest) ∙ sym (append_assoc given (option_to_list (item_at r b)) (items_from (behind r b) rest))

pub ends_at : EndsAt
ends_at text given r at = ap items_of (sym (append-nil text)) ∙ at []

piece_given : (r : Reading) (p rest : List ℕ) → items_from r (p ++ rest) ≡ given_by r p ++ items_from (held_behind r p) rest
piece_given r [] rest = refl
piece_given r (b ∷ bs) rest =
    ap (λ x. option_to_list (item_at r b) ++ x) (piece_given (behind r b) bs rest)
    ∙ sym (append_assoc (option_to_list (item_at r b)) (given_by (behind r b) bs) (items_from (held_behind (behind r b) bs) rest))

pieces_given : (r : Reading) (pieces : List (List ℕ)) → given_of r pieces ≡ items_from r (concat pieces)
pieces_given r [] = refl
pieces_given r (p ∷ ps) = ap (λ x. given_by r p ++ x) (pieces_given (held_behind r p) ps) ∙ sym (piece_given r p (concat ps))

pub any_pieces : AnyPieces
any_pieces pieces = pieces_given beginning pieces ∙ sym (begins_at (concat pieces))

pub any_first_line : AnyFirstLine
any_first_line n text = pieces_given (beginning_at n) (text ∷ []) ∙ ap (items_from (beginning_at n)) (append-nil text) ∙ (reads text).0 [] [] n nothing_kept tt (inl refl)
