-- Each change of a part that is in flight was carried out, or refused, or is due, just once.
use Rattle.std.proofs.Common.{◌≡◌, ℕ, ◌+◌, ◌≤◌, ◌<◌, Bool, List, [], ◌∷◌, ◌++◌, length, append_assoc, refl, sym, ap, ap₂, ◌∙◌, subst, arith}
use Rattle.std.specs.Prelude.{Contains, Option, Some, None, map}
use Rattle.std.specs.List.{AllByRecursion, AllZip}
use Rattle.std.specs.List.Sorted.{IsPermutation}
use Rattle.std.proofs.lemmas.List.Elements.{All-from_recursion, recursion_from_All}
use Rattle.std.proofs.lemmas.List.Sorted.{IsPermutation-sym, IsPermutation-trans, IsPermutation-middle, IsPermutation-append_right, IsPermutation-map, All-permutation}
use Rattle.maple_base.specs.declared.decision.TableMod.{TableMod}
use Rattle.maple_base.specs.declared.decision.TableMod.TheVariants.{DeleteAll}
use Rattle.of10_codec.specs.declared.message.Message.{Message}
use Rattle.switch_session.specs.Parts.{change_message, changes_from}
use Rattle.device_port.specs.Switches.{change_of}
use Rattle.update_plan.proofs.Members.{here, there}
use Rattle.world_stages.specs.Flights.{Asks, IsEachOnce}
use Rattle.world_stages.proofs.Lists.{all_left, all_right}
use Rattle.world_stages.proofs.Bodies.{change_is_read}

-- ---- one that goes from one list to another

module _ {X : Type 0} where
  -- one that stands among the last of two lists, ahead of both
  ahead_of : (xs ys zs : List X) (x : X) → IsPermutation (x ∷ ys) zs → IsPermutation (x ∷ (xs ++ ys)) (xs ++ zs)
  ahead_of xs ys zs x h =
      IsPermutation-trans (x ∷ (xs ++ ys)) (xs ++ x ∷ ys) (xs ++ zs) (IsPermutation-sym (xs ++ x ∷ ys) (x ∷ (xs ++ ys)) (IsPermutation-middle xs x ys))
      (IsPermutation-append_right xs (x ∷ ys) zs h)

  module _ (carried heard unheard all : List X) (x : X) where
    pub once_carried : (ahead behind : List X) → IsPermutation (carried ++ (heard ++ (unheard ++ (ahead ++ x ∷ behind)))) all
        → IsPermutation ((x ∷ carried) ++ (heard ++ (unheard ++ (ahead ++ behind)))) all
    once_carried ahead behind h =
        IsPermutation-trans _ _ _ (ahead_of carried _ _ x (ahead_of heard _ _ x (ahead_of unheard _ _ x (IsPermutation-sym _ _ (IsPermutation-middle ahead x behind))))) h

    pub once_refused : (ahead behind : List X) → IsPermutation (carried ++ (heard ++ (unheard ++ (ahead ++ x ∷ behind)))) all
        → IsPermutation (carried ++ (heard ++ ((unheard ++ x ∷ []) ++ (ahead ++ behind)))) all
    once_refused ahead behind h =
        let moved = IsPermutation-append_right unheard _ _ (IsPermutation-sym _ _ (IsPermutation-middle ahead x behind)) in
        let last = subst (λ (xs : List X). IsPermutation xs (unheard ++ (ahead ++ x ∷ behind))) (sym (append_assoc unheard (x ∷ []) (ahead ++ behind))) moved in
        IsPermutation-trans _ _ _ (IsPermutation-append_right carried _ _ (IsPermutation-append_right heard _ _ last)) h

    pub once_heard : (due : List X) → IsPermutation (carried ++ (heard ++ (x ∷ unheard ++ due))) all → IsPermutation (carried ++ ((x ∷ heard) ++ (unheard ++ due))) all
    once_heard due h = IsPermutation-trans _ _ _ (IsPermutation-append_right carried _ _ (IsPermutation-sym _ _ (IsPermutation-middle heard x (unheard ++ due)))) h

-- ---- the messages of a part

-- one of them, by the first number and by the barrier's
pub record IsChangeOf (first barrier : ℕ) (changes : List TableMod) (m : Message) : Type 0 where
  pub change : TableMod
  pub among : Contains changes change
  pub is : m ≡ change_message m.xid change
  pub from : first ≤ m.xid
  pub below : m.xid < barrier

pub changes_number : (first barrier xid : ℕ) (all changes : List TableMod) → first ≤ xid → xid + length changes ≤ barrier → ((c : TableMod) → Contains changes c → Contains all c)
    → AllByRecursion (IsChangeOf first barrier all) (changes_from xid changes)
changes_number first barrier xid all [] from below among = tt
changes_number first barrier xid all (c ∷ changes) from below among = (
  record { change = c; among = among c (here c changes); is = refl; from = from; below = omega arith },
  changes_number first barrier (xid + 1) all changes (omega arith) (omega arith) (λ d e. among d (there c changes d e)),
)

module _ {first barrier : ℕ} {changes : List TableMod} {quiet : Bool} {done : List TableMod} {due errors : List Message} (h : IsEachOnce first barrier changes quiet done due errors) where
  abbrev Is : Message → Type 0
  Is = IsChangeOf first barrier changes

  refused_or_due : AllByRecursion Is (h.unheard ++ due)
  refused_or_due =
      let numbers = h.numbers in
      let whole = h.carried ++ (h.heard ++ (h.unheard ++ due)) in
      let sent = All-from_recursion Is (changes_from first changes) (changes_number first barrier first changes changes (omega arith) (omega arith) (λ c d. d)) in
      let each = recursion_from_All Is whole (All-permutation Is (changes_from first changes) whole (IsPermutation-sym whole (changes_from first changes) h.once) sent) in
      all_right Is h.heard (h.unheard ++ due) (all_right Is h.carried (h.heard ++ (h.unheard ++ due)) each)

  pub unheard_changes : AllByRecursion Is h.unheard
  unheard_changes = all_left Is h.unheard due refused_or_due

  pub due_changes : AllByRecursion Is due
  due_changes = all_right Is h.unheard due refused_or_due

-- ---- the changes that were carried out

abbrev or_delete : Option TableMod → TableMod
or_delete (Some change) = change
or_delete None = DeleteAll

abbrev asked_by : Message → TableMod
asked_by m = or_delete (change_of m.body)

asked_are : (done : List TableMod) (carried : List Message) → AllZip Asks done carried → map asked_by carried ≡ done
asked_are [] [] h = refl
asked_are [] (m ∷ carried) h = absurd h
asked_are (c ∷ done) [] h = absurd h
asked_are (c ∷ done) (m ∷ carried) h = ap₂ (λ d ds. d ∷ ds) (ap or_delete (ap change_of h.0 ∙ change_is_read c)) (asked_are done carried h.1)

sent_ask : (xid : ℕ) (changes : List TableMod) → map asked_by (changes_from xid changes) ≡ changes
sent_ask xid [] = refl
sent_ask xid (c ∷ changes) = ap₂ (λ d ds. d ∷ ds) (ap or_delete (change_is_read c)) (sent_ask (xid + 1) changes)

-- where all messages of a part were carried out all its changes were
pub all_carried : (first : ℕ) (changes done : List TableMod) (carried : List Message) → AllZip Asks done carried → IsPermutation carried (changes_from first changes) → IsPermutation done changes
all_carried first changes done carried asked once =
    subst (λ ds. IsPermutation ds changes) (asked_are done carried asked)
    (subst (IsPermutation (map asked_by carried)) (sent_ask first changes) (IsPermutation-map asked_by carried (changes_from first changes) once))
