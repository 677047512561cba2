-- What hearing a message does to what is under way.
use Rattle.std.proofs.Common.{◌≡◌, ◌⊎◌, ℕ, Bool, true, false, List, [], ◌∷◌, ◌++◌, drop, refl, sym, ap, ◌∙◌, subst, inl, inr, true≢false, arith}
use Rattle.std.specs.List.{AllByRecursion, AllZip}
use Rattle.std.specs.List.Sorted.{IsPermutation}
use Rattle.std.proofs.lemmas.List.{append-nil}
use Rattle.maple_base.specs.declared.decision.TableMod.{TableMod}
use Rattle.of10_codec.specs.declared.message.Message.{Message}
use Rattle.of10_codec.specs.declared.message.Body.TheVariants.{BarrierReply}
use Rattle.switch_session.specs.Parts.{changes_from}
use Rattle.device_port.specs.Switches.{message}
use Rattle.machine_steps.specs.Machine.{Session}
use Rattle.world_steps.specs.Worlds.{Link}
use Rattle.world_stages.specs.Flights.{line_of, back_of, is_signal, signals, IsErrorOf, IsOnItsWay, IsEachOnce, IsInFlight}
use Rattle.world_stages.specs.FlightLaws.{heard, OthersAreHeard, ClearIsSilent, HearsRefusal, HearsReplyOf, SignalsAreHeard}
use Rattle.world_stages.proofs.Lists.{filter_takes, filter_passes_over}
use Rattle.world_stages.proofs.Once.{IsChangeOf, unheard_changes, once_heard, all_carried}

-- what comes back behind the first message
behind_first : (l : Link) (m : Message) (later : List Message) → back_of l ≡ m ∷ later → back_of (heard l) ≡ later
behind_first l m later e = ap (λ (ms : List Message). drop 1 ms) e

pub others_are_heard : OthersAreHeard
others_are_heard s l m later e other = ap signals (behind_first l m later e) ∙ sym (ap signals e ∙ filter_passes_over is_signal m later other)

-- the first signal
first_signal : (l : Link) (m : Message) (later : List Message) → back_of l ≡ m ∷ later → is_signal m ≡ true → signals (back_of l) ≡ m ∷ signals (back_of (heard l))
first_signal l m later e signal = ap signals e ∙ filter_takes is_signal m later signal ∙ ap (λ (ms : List Message). m ∷ signals ms) (sym (behind_first l m later e))

pub clear_is_silent : ClearIsSilent
clear_is_silent s l m later clear e = go (is_signal m) refl
  where
    go : (b : Bool) → is_signal m ≡ b → b ≡ false
    go true signal = let f = first_signal l m later e signal in let g = clear.back in absurd (cc)
    go false other = refl

three_none : (xs ys zs : List Message) → xs ≡ [] → ys ≡ [] → zs ≡ [] → xs ++ (ys ++ zs) ≡ []
three_none xs ys zs a b c = rw (a, b, c) refl

module _ (first barrier : ℕ) (changes : List TableMod) (quiet : Bool) (done : List TableMod) (s : Session) (l : Link) (m : Message) (h : IsInFlight first barrier changes quiet done (line_of s l) (back_of l)) where
  abbrev part : IsEachOnce first barrier changes quiet done h.due h.errors
  part = h.each

  -- the first of the errors is heard, which is that of the first change whose error comes back
  refusal_heard : (u : Message) (unheard errors : List Message) → part.unheard ≡ u ∷ unheard → IsErrorOf u m → AllZip IsErrorOf unheard errors
      → IsOnItsWay barrier h.due errors (line_of s (heard l)) (back_of (heard l)) → HearsRefusal first barrier changes done s l m
  refusal_heard u unheard errors is one told way =
      let changes_are = subst (AllByRecursion (IsChangeOf first barrier changes)) is (unheard_changes part) in
      let same = ap (λ (x : Message). x.xid) one.is in
      record {
        refusal = record { kind = one.kind; code = one.code; bytes = one.bytes; is = (cc); from = (let from = changes_are.0.from in omega arith); below = (let below = changes_are.0.below in omega arith) };
        flight = record {
          due = h.due;
          errors = errors;
          each = record {
            carried = part.carried;
            heard = u ∷ part.heard;
            unheard = unheard;
            above = part.above;
            numbers = part.numbers;
            once = once_heard part.carried part.heard unheard (changes_from first changes) u h.due
                (subst (λ (us : List Message). IsPermutation (part.carried ++ (part.heard ++ (us ++ h.due))) (changes_from first changes)) is part.once);
            asked = part.asked;
            noisy = λ q. absurd (true≢false q);
            told = told;
          };
          way = way;
        };
      }

  -- the reply to the barrier is, where none is due and no error comes back
  all_done : h.due ≡ [] → part.unheard ≡ [] → quiet ≡ false → IsPermutation done changes
  all_done none silent loud =
      let rest : part.heard ++ (part.unheard ++ h.due) ≡ [] = three_none part.heard part.unheard h.due (part.noisy loud) silent none in
      let whole : part.carried ++ (part.heard ++ (part.unheard ++ h.due)) ≡ part.carried = ap (λ (ms : List Message). part.carried ++ ms) rest ∙ append-nil part.carried in
      all_carried first changes done part.carried part.asked (subst (λ (ms : List Message). IsPermutation ms (changes_from first changes)) whole part.once)

  -- the first signal is the first error, or else the reply
  signal_heard : signals (back_of l) ≡ m ∷ signals (back_of (heard l)) → HearsRefusal first barrier changes done s l m ⊎ HearsReplyOf barrier changes quiet done s l m
  signal_heard e = go part.unheard h.errors refl refl part.told h.way
    where
      go : (us xs : List Message) → part.unheard ≡ us → h.errors ≡ xs → AllZip IsErrorOf us xs → IsOnItsWay barrier h.due h.errors (line_of s l) (back_of l)
          → HearsRefusal first barrier changes done s l m ⊎ HearsReplyOf barrier changes quiet done s l m
      go [] [] f g told (inl w) = let x = w.1 in absurd (cc)
      go (u ∷ us) (x ∷ xs) f g told (inl w) =
          let y = w.1 in
          inl (refusal_heard u us xs f (subst (IsErrorOf u) (cc) told.0) told.1 (inl (w.0, (cc))))
      go [] [] f g told (inr w) =
          let y : signals (back_of l) ≡ message barrier BarrierReply ∷ [] = w.2 ∙ ap (λ (ms : List Message). ms ++ message barrier BarrierReply ∷ []) g in
          inr (record { reply = (cc); clear = record { line = w.1; back = (cc) }; all = all_done w.0 f })
      go (u ∷ us) (x ∷ xs) f g told (inr w) =
          let y : signals (back_of l) ≡ x ∷ (xs ++ message barrier BarrierReply ∷ []) = w.2 ∙ ap (λ (ms : List Message). ms ++ message barrier BarrierReply ∷ []) g in
          inl (refusal_heard u us xs f (subst (IsErrorOf u) (cc) told.0) told.1 (inr (w.0, w.1, (cc))))
      go [] (x ∷ xs) f g told w = absurd told
      go (u ∷ us) [] f g told w = absurd told

pub signals_are_heard : SignalsAreHeard
signals_are_heard first barrier changes quiet done s l m later h e signal =
    signal_heard first barrier changes quiet done s l m h (first_signal l m later e signal)
