-- Matches field by field, and trees that ask of no fixed field again.
use Rattle.std.proofs.Common.{◌≡◌, ℕ, Bool, true, cond, Option, Some, None, refl, sym, ap, ◌∙◌, ⊎_elim, arith, false, List, [], ◌∷◌}
use Rattle.std.specs.Prelude.{◌&&◌}
use Rattle.std.proofs.lemmas.Bool.{eqb-true, eq-eqb, cases_Bool}
use Rattle.maple_base.specs.declared.key.Field.{Field}
use Rattle.maple_base.specs.declared.key.Field.TheVariants.{InPort, DlSrc, DlDst, DlVlan, DlType, NwTos, NwProto, NwSrc, NwDst, TpSrc, TpDst}
use Rattle.maple_base.specs.declared.key.Match.{Match}
use Rattle.maple_base.specs.declared.key.Key.{Key}
use Rattle.maple_base.specs.Keys.{field_of, admits, match_fits, fix, fixed_of, anything}
use Rattle.maple_base.specs.Questions.{same_field, field_number, among}
use Rattle.maple_base.proofs.Fields.{field_same}
use Rattle.trace_tree.specs.declared.node.Trace.{Trace}
use Rattle.trace_tree.specs.Shape.{Shape, Branches, Empty, Ends, Reads, Tests, NoBranch, Branch}
use Rattle.trace_tree.specs.Bounds.{IsFresh as AsksOnce, AreFresh as AskOnce}
use Rattle.trace_tree.specs.Growth.{insert, leaf_of, grown, scratch, AllAskOnce, AreAdmitted}
use Rattle.trace_tree.proofs.Bounds.{fresh_insert}

pub fits_at : (m : Match) (k : Key) → match_fits m k ≡ true → (f : Field) → admits (fixed_of m f) (field_of k f) ≡ true
fits_at m k h InPort = grind arith
fits_at m k h f = grind arith

pub fits_pcp : (m : Match) (k : Key) → match_fits m k ≡ true → admits m.dl_pcp k.dl_pcp ≡ true
fits_pcp m k h = grind arith

all_fit : (a b c d e f g h i j k l : Bool) → a ≡ true → b ≡ true → c ≡ true → d ≡ true → e ≡ true → f ≡ true → g ≡ true → h ≡ true → i ≡ true → j ≡ true → k ≡ true → l ≡ true → ((a && b && c && d && e && f) && (g && h && i && j) && (k && l)) ≡ true
all_fit a b c d e f g h i j k l pa pb pc pd pe pf pg ph pi pj pk pl = rw (pa, pb, pc, pd, pe, pf, pg, ph, pi, pj, pk, pl) refl

pub fits_from : (m : Match) (k : Key) → ((f : Field) → admits (fixed_of m f) (field_of k f) ≡ true) → admits m.dl_pcp k.dl_pcp ≡ true → match_fits m k ≡ true
fits_from m k h p = all_fit _ _ _ _ _ _ _ _ _ _ _ _ (h InPort) (h DlSrc) (h DlDst) (h DlVlan) p (h DlType) (h NwTos) (h NwProto) (h NwSrc) (h NwDst) (h TpSrc) (h TpDst)

pub fixed_of-fix : (f : Field) (v : ℕ) (m : Match) (g : Field) → fixed_of (fix f v m) g ≡ cond (same_field f g) (Some v) (fixed_of m g)
fixed_of-fix InPort v m InPort = refl
fixed_of-fix DlSrc v m DlSrc = refl
fixed_of-fix DlDst v m DlDst = refl
fixed_of-fix DlVlan v m DlVlan = refl
fixed_of-fix DlType v m DlType = refl
fixed_of-fix NwTos v m NwTos = refl
fixed_of-fix NwProto v m NwProto = refl
fixed_of-fix NwSrc v m NwSrc = refl
fixed_of-fix NwDst v m NwDst = refl
fixed_of-fix TpSrc v m TpSrc = refl
fixed_of-fix TpDst v m TpDst = refl
fixed_of-fix f v m g = refl

pub pcp-fix : (f : Field) (v : ℕ) (m : Match) → (fix f v m).dl_pcp ≡ m.dl_pcp
pcp-fix InPort v m = refl
pcp-fix f v m = refl

pub same_refl : (f : Field) → same_field f f ≡ true
same_refl f = eq-eqb (field_number f) (field_number f) refl

pub own_fixed : (f : Field) (v : ℕ) (m : Match) → fixed_of (fix f v m) f ≡ Some v
own_fixed f v m = fixed_of-fix f v m f ∙ ap (λ b. cond b (Some v) (fixed_of m f)) (same_refl f)

-- what is fixed stays when another field is
stays_fixed : (f g : Field) (v w : ℕ) (m : Match) → fixed_of m g ≡ None → fixed_of m f ≡ Some v → fixed_of (fix g w m) f ≡ Some v
stays_fixed f g v w m free e =
    ⊎_elim
    (λ same. let h = ap (fixed_of m) (field_same g f (eqb-true (field_number g) (field_number f) same)) in absurd (cc))
    (λ other. fixed_of-fix g w m f ∙ ap (λ b. cond b (Some w) (fixed_of m f)) other ∙ e)
    (cases_Bool (same_field g f))

-- a match that fixes a field fits only keys with that value
pub key_has : (f : Field) (v : ℕ) (m : Match) (k : Key) → fixed_of m f ≡ Some v → match_fits m k ≡ true → field_of k f ≡ v
key_has f v m k e h = sym (eqb-true v (field_of k f) (sym (ap (λ o. admits o (field_of k f)) e) ∙ fits_at m k h f))

-- the second match fixes what the first does
pub record Extends (m w : Match) : Type 0 where
  pub fixed : (f : Field) (v : ℕ) → fixed_of m f ≡ Some v → fixed_of w f ≡ Some v
  pub pcp : w.dl_pcp ≡ m.dl_pcp

pub extends_itself : (m w : Match) → m ≡ w → Extends m w
extends_itself m w e = record { fixed = λ f v h. ap (λ (x : Match). fixed_of x f) (sym e) ∙ h; pcp = ap (λ (x : Match). x.dl_pcp) (sym e) }

pub extends_fix : (g : Field) (u : ℕ) (m w : Match) → fixed_of m g ≡ None → Extends (fix g u m) w → Extends m w
extends_fix g u m w free h = record { fixed = λ f v e. h.fixed f v (stays_fixed f g v u m free e); pcp = h.pcp ∙ pcp-fix g u m }

-- and fits only keys that the first does
pub fits_wider : (m w : Match) (k : Key) → Extends m w → match_fits w k ≡ true → match_fits m k ≡ true
fits_wider m w k e h = fits_from m k (λ f. less (fixed_of m f) (fixed_of w f) (field_of k f) (e.fixed f) (fits_at w k h f)) (ap (λ o. admits o k.dl_pcp) (sym e.pcp) ∙ fits_pcp w k h)
  where
    less : (o p : Option ℕ) (u : ℕ) → ((v : ℕ) → o ≡ Some v → p ≡ Some v) → admits p u ≡ true → admits o u ≡ true
    less None p u more fit = refl
    less (Some v) p u more fit = sym (ap (λ x. admits x u) (more v refl)) ∙ fit

-- and all of these with that value
pub fits_fixed : (f : Field) (v : ℕ) (m : Match) (k : Key) → match_fits m k ≡ true → field_of k f ≡ v → match_fits (fix f v m) k ≡ true
fits_fixed f v m k h e =
    fits_from (fix f v m) k
    (λ g. ap (λ o. admits o (field_of k g)) (fixed_of-fix f v m g) ∙ ⊎_elim
    (λ same.
    let is = field_same f g (eqb-true (field_number f) (field_number g) same) in
    ap (λ b. admits (cond b (Some v) (fixed_of m g)) (field_of k g)) same ∙ eq-eqb v (field_of k g) (sym e ∙ ap (field_of k) is))
    (λ other. ap (λ b. admits (cond b (Some v) (fixed_of m g)) (field_of k g)) other ∙ fits_at m k h g)
    (cases_Bool (same_field f g)))
    (ap (λ o. admits o k.dl_pcp) (pcp-fix f v m) ∙ fits_pcp m k h)

abbrev mutual
  -- no question of the tree asks of a field that the match has fixed
  pub IsFresh : Shape → Match → Type 0
  IsFresh Empty m = Unit {0}
  IsFresh (Ends l) m = Unit {0}
  IsFresh (Reads f bs) m = (fixed_of m f ≡ None) × AreFresh bs f m
  IsFresh (Tests f v n y) m = (fixed_of m f ≡ None) × IsFresh n m × IsFresh y (fix f v m)

  pub AreFresh : Branches → Field → Match → Type 0
  AreFresh NoBranch f m = Unit {0}
  AreFresh (Branch v t bs) f m = IsFresh t (fix f v m) × AreFresh bs f m

-- the match fixes only these fields
abbrev pub Only : List Field → Match → Type 0
Only fs m = (f : Field) → among fs f ≡ false → fixed_of m f ≡ None

pub only_more : (fs : List Field) (m : Match) (f : Field) (v : ℕ) → Only fs m → Only (f ∷ fs) (fix f v m)
only_more fs m f v h g e =
    let p : same_field f g ≡ false = grind arith in
    let q : among fs g ≡ false = grind arith in
    fixed_of-fix f v m g ∙ ap (λ b. cond b (Some v) (fixed_of m g)) p ∙ h g q

pub only_nothing : Only [] anything
only_nothing InPort e = refl
only_nothing f e = refl

mutual
  free : (t : Shape) (fs : List Field) (m : Match) → Only fs m → AsksOnce fs t → IsFresh t m
  free Empty fs m only h = tt
  free (Ends l) fs m only h = tt
  free (Reads f bs) fs m only h = (only f h.0, free_in bs fs f m only h.1)
  free (Tests f v n y) fs m only h = (only f h.0, free n fs m only h.1, free y (f ∷ fs) (fix f v m) (only_more fs m f v only) h.2)

  free_in : (bs : Branches) (fs : List Field) (f : Field) (m : Match) → Only fs m → AskOnce (f ∷ fs) bs → AreFresh bs f m
  free_in NoBranch fs f m only h = tt
  free_in (Branch v t bs) fs f m only h = (free t (f ∷ fs) (fix f v m) (only_more fs m f v only) h.0, free_in bs fs f m only h.1)

grown_once : (rs : List Trace) (t : Shape) → AreAdmitted t rs → AllAskOnce rs → AsksOnce [] t → AsksOnce [] (grown t rs)
grown_once [] t a once h = h
grown_once (r ∷ rs) t a once h = grown_once rs (insert r.items (leaf_of r) t) a.1 once.1 (fresh_insert r.items (leaf_of r) t [] a.0 once.0 h)

pub scratch_fresh : (rs : List Trace) → AreAdmitted Empty rs → AllAskOnce rs → IsFresh (scratch rs) anything
scratch_fresh rs a once = free (scratch rs) [] anything only_nothing (grown_once rs Empty a once tt)
