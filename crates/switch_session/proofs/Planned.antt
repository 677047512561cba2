-- The batches of a plan can be sent.
use Rattle.std.proofs.Common.{◌≡◌, ℕ, ◌+◌, ◌≤◌, ◌<◌, ◌^◌, Bool, true, false, Option, Some, None, List, [], ◌∷◌, length, refl, ap, ◌∙◌, sym, arith}
use Rattle.std.specs.Option.{is_none}
use Rattle.std.specs.Prelude.{map, if◌then◌else◌, not, ◌&&◌}
use Rattle.std.specs.List.{All, list_all}
use Rattle.std.specs.List.Sorted.{IsPermutation}
use Rattle.std.proofs.lemmas.Bool.{and_parts, and_from}
use Rattle.std.proofs.lemmas.List.Elements.{All-append, All-map, All-filter, All-weaker}
use Rattle.std.proofs.lemmas.List.Folds.{list_all-append}
use Rattle.std.proofs.lemmas.List.Sums.{AllPass-from_list_all, list_all-from_AllPass}
use Rattle.std.proofs.lemmas.List.Sorted.{All-permutation, length_permutation}
use Rattle.maple_base.specs.declared.key.Match.{Match}
use Rattle.maple_base.specs.declared.key.Field.TheVariants.{InPort, DlSrc, DlDst, DlVlan, DlType}
use Rattle.maple_base.specs.Keys.{match_normal, link_normal, net_normal, transport_normal, fixed_within}
use Rattle.maple_base.specs.declared.decision.Rule.{Rule}
use Rattle.maple_base.specs.declared.decision.TableMod.{TableMod}
use Rattle.maple_base.specs.declared.decision.TableMod.TheVariants.{Add}
use Rattle.maple_base.specs.RuleLists.{Rules}
use Rattle.of10_codec.specs.Written.{is_address, match_fits_fields}
use Rattle.update_plan.specs.Batches.{rules_of, no_rules, is_over, origin, first_adds, first_deletes, second_adds, second_deletes, deletion, batch, first_batch, second_batch, IsSent, IsFirst, IsSecond}
use Rattle.update_plan.specs.Laws.{LengthLaw, SentLaw, AreShort}
use Rattle.switch_session.specs.Parts.{IsList, is_nil, leads_nowhere, parts_of}
use Rattle.switch_session.specs.Room.{CanBeSent, change_fits}

address_within : (v : Option ℕ) → fixed_within DlSrc v ≡ true → is_address v ≡ true
address_within None h = refl
address_within (Some n) h = h

address_within_too : (v : Option ℕ) → fixed_within DlDst v ≡ true → is_address v ≡ true
address_within_too None h = refl
address_within_too (Some n) h = h

link_fits : (p s d v t n : Bool) → (p && s && d && v && t && n) ≡ true → (s ≡ true) × (d ≡ true)
link_fits p s d v t n h =
    let five = (and_parts (p && s && d && v && t) n h).0 in
    let four = (and_parts (p && s && d && v) t five).0 in
    let three = and_parts (p && s && d) v four in
    let two = and_parts (p && s) d three.0 in
    ((and_parts p s two.0).1, two.1)

normal_fits : (m : Match) → match_normal m ≡ true → match_fits_fields m ≡ true
normal_fits m h =
    let link : link_normal m ≡ true = (and_parts (link_normal m) (net_normal m) (and_parts (link_normal m && net_normal m) (transport_normal m) h).0).0 in
    let both = link_fits (fixed_within InPort m.in_port) (fixed_within DlSrc m.dl_src) (fixed_within DlDst m.dl_dst) (fixed_within DlVlan m.dl_vlan) (fixed_within DlType m.dl_type) (is_none m.dl_pcp) link in
    and_from (is_address m.dl_src) (is_address m.dl_dst) (address_within m.dl_src both.0) (address_within_too m.dl_dst both.1)

-- the rules of a list, and those of its two parts
all_fit : (rules : List Rule) → list_all (λ (r : Rule). match_normal r.of) rules ≡ true → All (λ (r : Rule). match_fits_fields r.of ≡ true) rules
all_fit rules h =
    All-weaker (λ (r : Rule). match_normal r.of ≡ true) (λ (r : Rule). match_fits_fields r.of ≡ true) (λ r n. normal_fits r.of n) rules
    (AllPass-from_list_all (λ (r : Rule). match_normal r.of) rules h)

part_fits : (X : Rules) → list_all (λ (r : Rule). match_normal r.of) (rules_of X) ≡ true → All (λ (r : Rule). match_fits_fields r.of ≡ true) X.facts × All (λ (r : Rule). match_fits_fields r.of ≡ true) X.barriers
part_fits X h =
    let p : Rule → Bool = λ r. match_normal r.of in
    let both = and_parts (list_all p X.facts) (list_all p X.barriers) (sym (list_all-append p X.facts X.barriers) ∙ h) in
    (all_fit X.facts both.0, all_fit X.barriers both.1)

-- a batch of rules that fit
sent_fits : (adds deletes : List Rule) (mods : List TableMod) → All (λ (r : Rule). match_fits_fields r.of ≡ true) adds → All (λ (r : Rule). match_fits_fields r.of ≡ true) deletes
    → IsPermutation (batch adds deletes) mods → list_all change_fits mods ≡ true
sent_fits adds deletes mods a d same =
    let P : TableMod → Type 0 = λ m. change_fits m ≡ true in
    list_all-from_AllPass change_fits mods
    (All-permutation P (batch adds deletes) mods same (All-append P (map Add adds) (map deletion deletes) (All-map P Add adds a) (All-map P deletion deletes d)))

can_be_sent : (adds deletes : List Rule) (mods : List TableMod) → SentLaw → IsSent adds deletes mods → length (batch adds deletes) + 1 < 2 ^ 18
    → All (λ (r : Rule). match_fits_fields r.of ≡ true) adds → All (λ (r : Rule). match_fits_fields r.of ≡ true) deletes → CanBeSent mods
can_be_sent adds deletes mods law is short a d =
    let same : IsPermutation (batch adds deletes) mods = law adds deletes mods is in
    record {
      short = omega (arith, length_permutation (batch adds deletes) mods same);
      fits = sent_fits adds deletes mods a d same;
    }

-- the list from which the batches lead has normal matches
origin_normal : (capacity : ℕ) (A B : Rules) → list_all (λ (r : Rule). match_normal r.of) (rules_of A) ≡ true → list_all (λ (r : Rule). match_normal r.of) (rules_of (origin capacity A B)) ≡ true
origin_normal capacity A B h =
    elim (is_over capacity A B) as (λ b. list_all (λ (r : Rule). match_normal r.of) (rules_of (if b then no_rules else A)) ≡ true) [ true ↦ refl | false ↦ h ]

pub both_can_be_sent : (capacity : ℕ) (A B : Rules) (first second : List TableMod) → LengthLaw → SentLaw → IsList capacity A → IsList capacity B → capacity ≤ 65535
    → IsFirst (origin capacity A B) B first → IsSecond (origin capacity A B) B second → CanBeSent first × CanBeSent second
both_can_be_sent capacity A B first second lengths sent from to room is_first is_second =
    let O : Rules = origin capacity A B in
    let short : AreShort O B = lengths capacity A B from.target to.target room in
    let fits_O = part_fits O (origin_normal capacity A B from.normal) in
    let fits_B = part_fits B to.normal in
    let F : Rule → Type 0 = λ r. match_fits_fields r.of ≡ true in (
      can_be_sent (first_adds O B) (first_deletes O B) first sent is_first short.first (All-filter _ F B.barriers fits_B.1) (All-filter _ F O.facts fits_O.0),
      can_be_sent (second_adds O B) (second_deletes O B) second sent is_second short.second (All-filter _ F B.facts fits_B.0) (All-filter _ F O.barriers fits_O.1),
    )

nil_length : {X : Type 0} (xs ys : List X) → length ys ≡ length xs → is_nil ys ≡ is_nil xs
nil_length [] [] e = refl
nil_length [] (y ∷ ys) e = absurd (omega arith)
nil_length (x ∷ xs) [] e = absurd (omega arith)
nil_length (x ∷ xs) (y ∷ ys) e = refl

parts_nil : (first second : List TableMod) → is_nil (parts_of false first second) ≡ (is_nil first && is_nil second)
parts_nil [] [] = refl
parts_nil [] (m ∷ ms) = refl
parts_nil (m ∷ ms) [] = refl
parts_nil (m ∷ ms) (n ∷ ns) = refl

-- an update has no part just where no change leads from one list to the other
pub nowhere : (capacity : ℕ) (A B : Rules) (first second : List TableMod) → SentLaw → IsFirst (origin capacity A B) B first → IsSecond (origin capacity A B) B second
    → is_nil (parts_of (is_over capacity A B) first second) ≡ leads_nowhere capacity A B
nowhere capacity A B first second law is_first is_second = go (is_over capacity A B) is_first is_second
  where
    go : (over : Bool) → IsFirst (if over then no_rules else A) B first → IsSecond (if over then no_rules else A) B second
        → is_nil (parts_of over first second) ≡ (not over && is_nil (first_batch A B) && is_nil (second_batch A B))
    go true f s = refl
    go false f s =
        let one = nil_length (first_batch A B) first (length_permutation _ first (law (first_adds A B) (first_deletes A B) first f)) in
        let two = nil_length (second_batch A B) second (length_permutation _ second (law (second_adds A B) (second_deletes A B) second s)) in
        parts_nil first second ∙ ap (λ b. b && is_nil second) one ∙ ap (λ b. is_nil (first_batch A B) && b) two
