-- Words of names and of parts.
use Rattle.std.proofs.Common.{◌≡◌, ℕ, eqb, cond, false, List, [], ◌∷◌, Some, None, refl, sym, ap}
use Rattle.std.specs.Prelude.{◌↔◌, IsSome, IsTrue, codes}
use Rattle.std.specs.Option.{option_map}
use Rattle.std.specs.List.{find, slice_split}
use Rattle.std.specs.Str.{bytes_eq}
use Rattle.std.proofs.lemmas.Bool.{false_from_ne_true, false≢true}
use Rattle.maple_base.specs.Names.{is_name}
use Rattle.maple_text.proofs.PartsOf.{some_part}
use Rattle.policy_tokens.specs.declared.token.Token.TheVariants.{Keyword as keyword_token, Name as name_token}
use Rattle.policy_tokens.specs.Spellings.{keyword_text, keywords}
use Rattle.policy_tokens.specs.Words.{plain_token, packet_token, place_token, parts_token}

-- what is not accepted is no name
pub unnamed : (word : List ℕ) → (IsSome {T = List ℕ} None ↔ IsTrue (is_name word)) → is_name word ≡ false
unnamed word h = false_from_ne_true _ (λ t. false≢true (h.1 t))

pub plain_keyword : (word : List ℕ) → is_name word ≡ false → plain_token word ≡ option_map keyword_token (find (λ k. bytes_eq (keyword_text k) word) keywords)
plain_keyword word f = ap (λ t. cond t (Some (name_token word)) (option_map keyword_token (find (λ k. bytes_eq (keyword_text k) word) keywords))) f

pub other_parts : (front part : List ℕ) (parts : List (List ℕ)) → parts ≡ front ∷ part ∷ [] → bytes_eq front (codes "pkt") ≡ false
    → cond (is_name front) (place_token front part) None ≡ parts_token parts
other_parts front part parts e f = rw e (sym (ap (λ t. cond t (packet_token part) (cond (is_name front) (place_token front part) None)) f))

-- no token has three parts
pub three_parts : (front part : List ℕ) (text : List ℕ) → parts_token (front ∷ part ∷ slice_split (λ b. eqb b 46) text) ≡ None
three_parts front part text = let h = some_part 46 text in rw h.is refl
