-- Items that are asked rightly behind those before: of a field that is not fixed, of its domain, and where its header is known to be there.
use Rattle.std.proofs.Common.{◌≡◌, ℕ, Bool, true, false, cond, List, [], ◌∷◌, ◌++◌, Some, None, refl, sym, ap, ◌∙◌, arith}
use Rattle.std.specs.Prelude.{◌&&◌, ◌||◌, not, Option, is_some}
use Rattle.std.specs.List.{list_all}
use Rattle.std.proofs.lemmas.Bool.Decides.{nat_tests}
use Rattle.maple_base.specs.declared.key.Field.{Field}
use Rattle.maple_base.specs.declared.key.Field.TheVariants.{InPort, DlSrc, DlDst, DlVlan, DlType, NwTos, NwProto, NwSrc, NwDst, TpSrc, TpDst}
use Rattle.maple_base.specs.declared.key.Match.{Match}
use Rattle.maple_base.specs.declared.items.Item.{Item}
use Rattle.maple_base.specs.declared.items.Item.TheVariants.{Read, Test}
use Rattle.maple_base.specs.Keys.{in_domain, anything, fix, fixed_of, fixed_to, fixed_ports, match_normal, link_normal, net_normal, transport_normal}
use Rattle.maple_base.specs.Questions.{same_field, known, among, asks_once, within_domain}
use Rattle.policy_meaning.specs.QuestionLaws.{asks_normally, settles, asks_unsettled}
use Rattle.std.proofs.lemmas.Bool.{and_parts, and_from}
use Rattle.policy_meaning.proofs.Valid.{header_by}
use Rattle.policy_meaning.proofs.Settled.{same_field_is}

abbrev pub header_known : Field → List Item → Bool
header_known f seen = header_by f (known DlType seen) (known NwProto seen)

abbrev pub asked : Item → Field
asked (Read f v) = f
asked (Test f v answer) = f

pub record IsRight (seen : List Item) (i : Item) : Type 0 where
  pub new : known (asked i) seen ≡ None
  pub unsettled : settles seen i ≡ false
  pub within : within_domain i ≡ true
  pub there : header_known (asked i) seen ≡ true

abbrev pub AreRight : List Item → List Item → Type 0
AreRight seen [] = Unit {0}
AreRight seen (i ∷ is) = IsRight seen i × AreRight (seen ++ i ∷ []) is

pub right_within : (is seen : List Item) → AreRight seen is → list_all within_domain is ≡ true
right_within [] seen h = refl
right_within (i ∷ is) seen h = ap (λ x. x && list_all within_domain is) h.0.within ∙ right_within is (seen ++ i ∷ []) h.1

pub right_unsettled : (is seen : List Item) → AreRight seen is → asks_unsettled seen is ≡ true
right_unsettled [] seen h = refl
right_unsettled (i ∷ is) seen h = and_from (not (settles seen i)) (asks_unsettled (seen ++ i ∷ []) is) (ap not h.0.unsettled) (right_unsettled is (seen ++ i ∷ []) h.1)

-- what is known behind one more item
abbrev pub or_else : Option ℕ → Option ℕ → Option ℕ
or_else (Some v) o = Some v
or_else None o = o

either_way : (b : Bool) (x y o : Option ℕ) (w : ℕ) → x ≡ or_else y o → cond b (Some w) x ≡ or_else (cond b (Some w) y) o
either_way true x y o w h = refl
either_way false x y o w h = h

pub known_more : (is : List Item) (f : Field) (i : Item) → known f (is ++ i ∷ []) ≡ or_else (known f is) (known f (i ∷ []))
known_more [] f i = refl
known_more (Read g w ∷ is) f i = either_way (same_field f g) (known f (is ++ i ∷ [])) (known f is) (known f (i ∷ [])) w (known_more is f i)
known_more (Test g w true ∷ is) f i = either_way (same_field f g) (known f (is ++ i ∷ [])) (known f is) (known f (i ∷ [])) w (known_more is f i)
known_more (Test g w false ∷ is) f i = known_more is f i

none_more : (o : Option ℕ) → or_else o None ≡ o
none_more (Some v) = refl
none_more None = refl

one_more : (b : Bool) (o : Option ℕ) (v : ℕ) → (b ≡ true → o ≡ None) → or_else o (cond b (Some v) None) ≡ cond b (Some v) o
one_more true o v h = ap (λ x. or_else x (Some v)) (h refl)
one_more false o v h = none_more o

-- an item that fixes this field to this value
abbrev Fixes : Field → ℕ → Item → Type 0
Fixes f v i = (g : Field) → known g (i ∷ []) ≡ cond (same_field g f) (Some v) None

known_fix : (seen : List Item) (f : Field) (v : ℕ) (i : Item) → Fixes f v i → known f seen ≡ None → (g : Field) → known g (seen ++ i ∷ []) ≡ cond (same_field g f) (Some v) (known g seen)
known_fix seen f v i fixes new g =
    known_more seen g i ∙ ap (or_else (known g seen)) (fixes g)
    ∙ one_more (same_field g f) (known g seen) v (λ e. ap (λ h. known h seen) (same_field_is g f e) ∙ new)

known_test : (seen : List Item) (f : Field) (v : ℕ) (g : Field) → known g (seen ++ Test f v false ∷ []) ≡ known g seen
known_test seen f v g = known_more seen g (Test f v false) ∙ none_more (known g seen)

-- what was known stays
pub known_still : (seen : List Item) (i : Item) (g : Field) (w : ℕ) → known g seen ≡ Some w → known g (seen ++ i ∷ []) ≡ Some w
known_still seen i g w h = known_more seen g i ∙ ap (λ o. or_else o (known g (i ∷ []))) h

same_field_own : (f : Field) → same_field f f ≡ true
same_field_own f = grind (arith, nat_tests)

pub known_read : (seen : List Item) (f : Field) (v : ℕ) → known f seen ≡ None → known f (seen ++ Read f v ∷ []) ≡ Some v
known_read seen f v new = known_fix seen f v (Read f v) (λ g. refl) new f ∙ ap (λ b. cond b (Some v) (known f seen)) (same_field_own f)

same_turned : (f g : Field) → same_field f g ≡ same_field g f
same_turned f g = grind (arith, nat_tests)

-- no field is asked of once it is fixed
abbrev pub AreFixed : List Field → List Item → Type 0
AreFixed fixed seen = (g : Field) → among fixed g ≡ is_some (known g seen)

some_more : (b : Bool) (o : Option ℕ) (v : ℕ) → (b || is_some o) ≡ is_some (cond b (Some v) o)
some_more true o v = refl
some_more false o v = refl

fixed_more : (fixed : List Field) (seen : List Item) (f : Field) (v : ℕ) (i : Item) → Fixes f v i → known f seen ≡ None → AreFixed fixed seen → AreFixed (f ∷ fixed) (seen ++ i ∷ [])
fixed_more fixed seen f v i fixes new a g =
    ap (λ x. x || among fixed g) (same_turned f g) ∙ ap (λ x. same_field g f || x) (a g)
    ∙ some_more (same_field g f) (known g seen) v ∙ ap is_some (sym (known_fix seen f v i fixes new g))

not_fixed : (fixed : List Field) (seen : List Item) (f : Field) → AreFixed fixed seen → known f seen ≡ None → not (among fixed f) ≡ true
not_fixed fixed seen f a new = ap not (a f ∙ ap is_some new)

pub right_once : (is : List Item) (fixed : List Field) (seen : List Item) → AreFixed fixed seen → AreRight seen is → asks_once fixed is ≡ true
right_once [] fixed seen a h = refl
right_once (Read f v ∷ is) fixed seen a h =
    ap (λ x. x && asks_once (f ∷ fixed) is) (not_fixed fixed seen f a h.0.new)
    ∙ right_once is (f ∷ fixed) (seen ++ Read f v ∷ []) (fixed_more fixed seen f v (Read f v) (λ g. refl) h.0.new a) h.1
right_once (Test f v true ∷ is) fixed seen a h =
    ap (λ x. x && asks_once (f ∷ fixed) is) (not_fixed fixed seen f a h.0.new)
    ∙ right_once is (f ∷ fixed) (seen ++ Test f v true ∷ []) (fixed_more fixed seen f v (Test f v true) (λ g. refl) h.0.new a) h.1
right_once (Test f v false ∷ is) fixed seen a h =
    ap (λ x. x && asks_once fixed is) (not_fixed fixed seen f a h.0.new)
    ∙ right_once is fixed (seen ++ Test f v false ∷ []) (λ g. a g ∙ ap is_some (sym (known_test seen f v g))) h.1

-- what the items before tell of each field is what the match fixes
abbrev pub Knows : List Item → Match → Type 0
Knows seen m = (g : Field) → fixed_of m g ≡ known g seen

pub knows_nothing : Knows [] anything
knows_nothing InPort = refl
knows_nothing f = refl

fixed_of-fix : (f : Field) (v : ℕ) (m : Match) (g : Field) → fixed_of (fix f v m) g ≡ cond (same_field g f) (Some v) (fixed_of m g)
fixed_of-fix InPort v m InPort = refl
fixed_of-fix DlSrc v m DlSrc = refl
fixed_of-fix DlDst v m DlDst = refl
fixed_of-fix DlVlan v m DlVlan = refl
fixed_of-fix DlType v m DlType = refl
fixed_of-fix NwTos v m NwTos = refl
fixed_of-fix NwProto v m NwProto = refl
fixed_of-fix NwSrc v m NwSrc = refl
fixed_of-fix NwDst v m NwDst = refl
fixed_of-fix TpSrc v m TpSrc = refl
fixed_of-fix TpDst v m TpDst = refl
fixed_of-fix f v m g = refl

knows_more : (seen : List Item) (m : Match) (f : Field) (v : ℕ) (i : Item) → Fixes f v i → known f seen ≡ None → Knows seen m → Knows (seen ++ i ∷ []) (fix f v m)
knows_more seen m f v i fixes new h g = fixed_of-fix f v m g ∙ ap (cond (same_field g f) (Some v)) (h g) ∙ sym (known_fix seen f v i fixes new g)

link_fix : (f : Field) (v : ℕ) (m : Match) → link_normal m ≡ true → in_domain f v ≡ true → link_normal (fix f v m) ≡ true
link_fix InPort v m h d = grind arith
link_fix DlSrc v m h d = grind arith
link_fix DlDst v m h d = grind arith
link_fix DlVlan v m h d = grind arith
link_fix DlType v m h d = grind arith
link_fix f v m h d = h

-- the type is not fixed a second time, and a field of the IP header is fixed beside it
net_fix : (f : Field) (v : ℕ) (m : Match) → net_normal m ≡ true → in_domain f v ≡ true → fixed_of m f ≡ None → header_by f m.dl_type m.nw_proto ≡ true → net_normal (fix f v m) ≡ true
net_fix DlType v m h d e p = let s : fixed_to m.dl_type 0x0800 ≡ false = ap (λ o. fixed_to o 0x0800) e in grind arith
net_fix NwTos v m h d e p = grind arith
net_fix NwProto v m h d e p = grind arith
net_fix NwSrc v m h d e p = grind arith
net_fix NwDst v m h d e p = grind arith
net_fix f v m h d e p = h

transport_fix : (f : Field) (v : ℕ) (m : Match) → transport_normal m ≡ true → in_domain f v ≡ true → fixed_of m f ≡ None → header_by f m.dl_type m.nw_proto ≡ true → transport_normal (fix f v m) ≡ true
transport_fix DlType v m h d e p = let s : fixed_to m.dl_type 0x0800 ≡ false = ap (λ o. fixed_to o 0x0800) e in grind arith
transport_fix NwProto v m h d e p = let s : fixed_ports m.nw_proto ≡ false = ap fixed_ports e in grind arith
transport_fix TpSrc v m h d e p = grind arith
transport_fix TpDst v m h d e p = grind arith
transport_fix f v m h d e p = h

-- a field that is not fixed yet is fixed to a number of its domain, where its header is there
normal_fix : (f : Field) (v : ℕ) (m : Match) → match_normal m ≡ true → in_domain f v ≡ true → fixed_of m f ≡ None → header_by f m.dl_type m.nw_proto ≡ true → match_normal (fix f v m) ≡ true
normal_fix f v m h d e p =
    let a = and_parts (link_normal m && net_normal m) (transport_normal m) h in
    let b = and_parts (link_normal m) (net_normal m) a.0 in
    and_from (link_normal (fix f v m) && net_normal (fix f v m)) (transport_normal (fix f v m))
    (and_from (link_normal (fix f v m)) (net_normal (fix f v m)) (link_fix f v m b.0 d) (net_fix f v m b.1 d e p)) (transport_fix f v m a.1 d e p)

right_fix : (seen : List Item) (m : Match) (f : Field) (v : ℕ) → Knows seen m → match_normal m ≡ true → in_domain f v ≡ true → known f seen ≡ None → header_known f seen ≡ true → match_normal (fix f v m) ≡ true
right_fix seen m f v knows normal inside new there =
    normal_fix f v m normal inside (knows f ∙ new)
    (ap (λ o. header_by f o m.nw_proto) (knows DlType) ∙ ap (header_by f (known DlType seen)) (knows NwProto) ∙ there)

pub right_normal : (is : List Item) (m : Match) (seen : List Item) → Knows seen m → match_normal m ≡ true → AreRight seen is → asks_normally m is ≡ true
right_normal [] m seen knows normal h = refl
right_normal (Read f v ∷ is) m seen knows normal h =
    let e = right_fix seen m f v knows normal h.0.within h.0.new h.0.there in
    ap (λ x. x && asks_normally (fix f v m) is) e
    ∙ right_normal is (fix f v m) (seen ++ Read f v ∷ []) (knows_more seen m f v (Read f v) (λ g. refl) h.0.new knows) e h.1
right_normal (Test f v true ∷ is) m seen knows normal h =
    let e = right_fix seen m f v knows normal h.0.within h.0.new h.0.there in
    ap (λ x. x && asks_normally (fix f v m) is) e
    ∙ right_normal is (fix f v m) (seen ++ Test f v true ∷ []) (knows_more seen m f v (Test f v true) (λ g. refl) h.0.new knows) e h.1
right_normal (Test f v false ∷ is) m seen knows normal h =
    ap (λ x. x && asks_normally m is) (right_fix seen m f v knows normal h.0.within h.0.new h.0.there)
    ∙ right_normal is m (seen ++ Test f v false ∷ []) (λ g. knows g ∙ sym (known_test seen f v g)) normal h.1
