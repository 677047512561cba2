-- A turn of the board comes.
use Rattle.std.proofs.Common.{◌≡◌, ◌≢◌, ℕ, ◌+◌, true, false, ◌==◌, List, [], ◌∷◌, ◌++◌, length, Option, append-nil, length-append, refl, sym, ap, ◌∙◌, subst, inl, inr, arith}
use Rattle.std.specs.Prelude.{is_some, Result, Ok, Err, OnErr}
use Rattle.std.specs.List.{list_all}
use Rattle.std.proofs.lemmas.Bool.{eq-eqb, ne_eqb, or_parts, both_ways}
use Rattle.std.proofs.lemmas.List.{append_assoc}
use Rattle.std.proofs.lemmas.List.Folds.{list_any-append}
use Rattle.maple_io.specs.declared.act.Act.{Act}
use Rattle.maple_io.specs.declared.act.Act.TheVariants as acts
use Rattle.maple_io.specs.declared.board.Turn.{Turn as BoardTurn}
use Rattle.maple_io.specs.declared.board.Turn.TheVariants as turn
use Rattle.maple_io.specs.Boards.{BoardFailed, BoardView, NoBoardFailed, is_opening, was_opened}
use Rattle.maple_io.specs.Turns.{OpensAnew, given_acts}
use Rattle.of10_codec.specs.declared.fault.Bad.{Bad as Fault}
use Rattle.of10_stream.specs.Steps.{Held, Stream, appended, fed}
use Rattle.machine_steps.specs.declared.entry.Input.{Input}
use Rattle.machine_steps.specs.declared.entry.Input.TheVariants.{Message as Whole, Bad}
use Rattle.machine_steps.specs.Machine.{State, session_at}
use Rattle.machine_steps.specs.Machine.{was_opened as was_session}
use Rattle.machine_desk.specs.Hearing.{IsStaged}
use Rattle.machine_desk.specs.declared.inbound.Inbound.{Inbound}
use Rattle.machine_desk.specs.declared.stopped.Stopped.{Stopped}
use Rattle.machine_desk.proofs.Tended.{alone_back, same_self}
use Rattle.sim_steps.specs.Agreeing.{AreCut}
use Rattle.serve_steps.specs.Deeds.{Past, acts_of, bytes_of, inputs_of, taken_of, turns_of}
use Rattle.serve_steps.specs.Deeds.Deed.{Does}
use Rattle.serve_steps.specs.Parts.{Given}
use Rattle.serve_steps.proofs.Heard.{came_other, concerns}
use Rattle.serve_channels.specs.declared.connection.Connection.{Connection}
use Rattle.serve_channels.specs.declared.server.Server.{Server}
use Rattle.serve_channels.specs.Delivering.{FailsBy, GivesOne, IsNew, OpensOnce, bytes_in, given_act, given_deeds}
use Rattle.serve_channels.specs.Feeding.{FeedsBy, FeedsOne}
use Rattle.serve_channels.specs.Keeping.{Agrees, IsHeardTo, IsKept, is_message}
use Rattle.serve_channels.specs.Servers.{IsKnown, IsSame, number_of, home}
use Rattle.serve_channels.proofs.Acts.{act_alike}
use Rattle.serve_channels.proofs.Alike.{IsAlike, unused_alike}
use Rattle.serve_channels.proofs.Kept.{IsKeptBut, IsLeft, IsTold, kept_at, kept_but, kept_same, kept_whole, number_there, same_connections}

-- ---- what a turn leaves of a connection

module _ (c : ℕ) (t : BoardTurn) (bytes : List ℕ) (past : Past) where
  abbrev given : Act
  given = acts.Gives t bytes

  pub given_alike : IsAlike c past (Does given ∷ past)
  given_alike = act_alike c given past refl refl refl

-- more bytes behind those that were cut belong to the rest
cut_more : (place : ℕ) (inputs : List Input) (bytes rest more : List ℕ) → list_all is_message inputs ≡ true → AreCut place inputs bytes rest
    → AreCut place inputs (bytes ++ more) (rest ++ more)
cut_more place [] bytes rest more all cut = ap (λ xs. xs ++ more) cut
cut_more place (Whole x ∷ inputs) bytes rest more all cut =
    (cut.0, cut.1 ++ more, ap (λ xs. xs ++ more) cut.2 ∙ append_assoc cut.0 cut.1 more, cut.3, cut_more (place + length cut.0) inputs cut.1 rest more all cut.4)
cut_more place (Bad at bad ∷ inputs) bytes rest more all cut = absurd (cc)

long_more : (place : ℕ) (rest bytes more : List ℕ) → place + length rest ≡ length bytes → place + length (rest ++ more) ≡ length (bytes ++ more)
long_more place rest bytes more e = omega (arith, e, length-append rest more, length-append bytes more)

heard_more : (c : ℕ) (past after : Past) (s : Stream) (more : List ℕ) → inputs_of c after ≡ inputs_of c past → bytes_of c after ≡ bytes_of c past ++ more → IsHeardTo c past s
    → IsHeardTo c after (fed more s)
heard_more c past after s more inputs bytes h =
    subst (λ (o : Option (ℕ × Fault)). IsHeardTo c after (appended o more s)) (sym h.unbroken) (record {
      cut =
          subst (λ (is : List Input). AreCut 0 is (bytes_of c after) (s.rest ++ more)) (sym inputs)
          (subst (λ xs. AreCut 0 (inputs_of c past) xs (s.rest ++ more)) (sym bytes) (cut_more 0 (inputs_of c past) (bytes_of c past) s.rest more h.messages h.cut));
      place = long_more s.place s.rest (bytes_of c past) more h.place ∙ ap length (sym bytes);
      unbroken = h.unbroken;
      messages = ap (list_all is_message) inputs ∙ h.messages;
    })

still_staged : (i : Inbound) (from : Held) (m : State) → IsStaged i m → IsStaged (record i { from = from }) m
still_staged i from m h = record { live = h.live; opened = h.opened }

-- ---- the server behind it

module _ {g : Given} {before : List Act} {past : Past} {log : List Act} {a : Server} (kept : IsKept g before past log a) where
  never_opened : (d : ℕ) → was_opened d log ≡ false → was_opened d (acts_of past) ≡ false
  never_opened d none =
      (or_parts (was_opened d before) (was_opened d (acts_of past))
      (sym (list_any-append (is_opening d) before (acts_of past)) ∙ ap (was_opened d) (sym kept.acts) ∙ none)).1

  -- one that is there was opened
  was_there : (c : ℕ) → IsKnown c a.connections.items → was_opened c (acts_of past) ≡ true
  was_there c known = subst (λ n. was_opened n (acts_of past) ≡ true) known.1.number (kept.agree known.0 known.1.connection known.1.there).opened

  not_new : (d c : ℕ) → was_opened d log ≡ false → IsKnown c a.connections.items → (d == c) ≡ false
  not_new d c none known = ne_eqb d c (λ e. both_ways (was_opened c (acts_of past)) (ap (λ n. was_opened n (acts_of past)) (sym e) ∙ never_opened d none) (was_there c known))

  abbrev after : BoardTurn → List ℕ → Past
  after t bytes = Does (acts.Gives t bytes) ∷ past

  module _ {new_log : List Act} {b : Server} (t : BoardTurn) (bytes : List ℕ) (log_is : new_log ≡ log ++ acts.Gives t bytes ∷ []) where
    told : b.desk ≡ a.desk → IsSame a b → IsTold before (after t bytes) new_log a b
    told desk same = record {
      same = same;
      turns = ap (λ d. d.past) desk ∙ kept.turns ∙ sym (append-nil (turns_of past));
      acts = log_is ∙ ap (λ xs. xs ++ acts.Gives t bytes ∷ []) kept.acts ∙ append_assoc before (acts_of past) (acts.Gives t bytes ∷ []);
      settings = ap (λ d. d.now.settings) desk;
    }

    left : b.desk ≡ a.desk → (c : ℕ) → (IsKnown c a.connections.items → concerns c t ≡ false) → IsLeft past (after t bytes) a b c
    left desk c other = record {
      alike = given_alike c t bytes past;
      bytes = λ known. came_other c t bytes (bytes_of c past) (other known);
      session = record { live = ap (λ d. is_some (session_at c d.now)) desk; opened = ap (λ d. was_session c d.now) desk };
    }

    whole : b.desk ≡ a.desk → IsSame a b → IsKeptBut g before (after t bytes) new_log b → IsKept g before (after t bytes) new_log b
    whole desk same k = kept_whole k (λ alone. ap (λ d. d.now.jobs) desk ∙ kept.jobs (alone_back home same alone))

    -- no connection changes
    given_kept : b ≡ a → ((c : ℕ) → IsKnown c a.connections.items → concerns c t ≡ false) → IsKept g before (after t bytes) new_log b
    given_kept e others =
        (let desk = ap (λ (s : Server). s.desk) e in
        let same = subst (IsSame a) (sym e) (same_self home a) in
        whole desk same (kept_same (kept_but kept) (told desk same) (ap (λ (s : Server). s.connections.items) e) (λ c. left desk c (others c))))

  -- bytes on a connection that is there
  module _ {new_log : List Act} {b : Server} (c n : ℕ) (bytes : List ℕ) (log_is : new_log ≡ log ++ acts.Gives (turn.Bytes c n) bytes ∷ []) (h : FeedsOne c bytes a b) where
    abbrev k : Connection
    k = h.feeds.connection

    number : number_of k ≡ c
    number = number_there h.at c k a.connections.items h.feeds.there h.is

    abbrev behind_it : Past
    behind_it = Does (acts.Gives (turn.Bytes c n) bytes) ∷ past

    agrees : Agrees past k
    agrees = kept.agree h.at k h.feeds.there

    alike : IsAlike (number_of k) past behind_it
    alike = given_alike (number_of k) (turn.Bytes c n) bytes past

    came : bytes_of (number_of k) behind_it ≡ bytes_of (number_of k) past ++ bytes
    came = (let e : (c == number_of k) ≡ true = ap (λ m. c == m) number ∙ eq-eqb c c refl in rw e refl)

    fed_agrees : Agrees behind_it (record k { inbound = record k.inbound { from = h.feeds.behind.from } })
    fed_agrees = record {
      queue = agrees.queue;
      begun = agrees.begun;
      live = agrees.live;
      over = agrees.over;
      cut = agrees.cut;
      step = append-nil (taken_of (number_of k) past) ∙ agrees.step ∙ ap (λ xs. xs ++ k.queue.rest) (sym alike.sent_is);
      failed = agrees.failed;
      heard = λ live.
          subst (IsHeardTo (number_of k) behind_it) (sym h.feeds.does.0)
          (heard_more (number_of k) past behind_it k.inbound.from.stream bytes alike.inputs came (agrees.heard live));
      opened = alike.opened agrees.opened;
      closed = alike.closed ∙ agrees.closed;
    }

    behind_is : record k.inbound { from = h.feeds.behind.from } ≡ h.feeds.behind
    behind_is = λ i. record { connection = sym h.feeds.does.1.0 i; stage = sym h.feeds.does.1.1 i; from = h.feeds.behind.from }

    here : Agrees behind_it (record k { inbound = h.feeds.behind })
    here = subst (λ (x : Inbound). Agrees behind_it (record k { inbound = x })) behind_is fed_agrees

    desk_is : b.desk ≡ a.desk
    desk_is = ap (λ (s : Server). s.desk) h.feeds.rest

    same_is : IsSame a b
    same_is = same_connections a b h.feeds.rest

    staged_is : IsStaged h.feeds.behind b.desk.now
    staged_is =
        subst (λ d. IsStaged h.feeds.behind d.now) (sym desk_is)
        (subst (λ (x : Inbound). IsStaged x a.desk.now) behind_is (still_staged k.inbound h.feeds.behind.from a.desk.now (kept.sessions.staged h.at k h.feeds.there)))

    fed_kept : IsKept g before behind_it new_log b
    fed_kept =
        whole (turn.Bytes c n) bytes log_is desk_is same_is
        (kept_at (kept_but kept) (told (turn.Bytes c n) bytes log_is desk_is same_is) h.at k (record k { inbound = h.feeds.behind }) h.feeds.there h.feeds.all h.feeds.does.1.0 here staged_is
        (λ m other. left (turn.Bytes c n) bytes log_is desk_is m (λ known. ne_eqb c m (λ e. other (sym e ∙ sym number)))))

  -- a connection was opened
  is_new : {b : Server} (c : ℕ) (bytes : List ℕ) → was_opened c log ≡ false → b ≡ a → IsNew (turn.Opened c) (Does (acts.Gives (turn.Opened c) bytes) ∷ past) b
  is_new c bytes none e =
      (let never = never_opened c none in
      let now : Past = Does (acts.Gives (turn.Opened c) bytes) ∷ past in (
        (
          unused_alike c past now (given_alike c (turn.Opened c) bytes past) (kept.unused c never).0,
          list_any-append (is_opening c) (acts_of past) (acts.Gives (turn.Opened c) bytes ∷ []) ∙ rw (never, eq-eqb c c refl) refl,
          rw (eq-eqb c c refl) refl,
        ),
        (λ known. both_ways (was_opened c (acts_of past)) never (was_there c (subst (λ (s : Server). IsKnown c s.connections.items) e known))),
        ap (λ (s : Server). was_session c s.desk.now) e ∙ (kept.unused c never).1,
      ))

  -- ---- each turn

  pub opens_once : (t : BoardTurn) → OpensAnew t log → OpensOnce t past
  opens_once (turn.Opened c) anew = never_opened c anew
  opens_once t anew = tt

  module _ {new_log : List Act} {b : Server} where
    passes : (log_is : new_log ≡ log ++ []) → b ≡ a → IsKept g before past new_log b
    passes log_is e = subst (IsKept g before past new_log) (sym e) (subst (λ ls. IsKept g before past ls a) (sym (log_is ∙ append-nil log)) kept)

    quiet : (t : BoardTurn) (bytes : List ℕ) → new_log ≡ log ++ acts.Gives t bytes ∷ [] → ((c : ℕ) → concerns c t ≡ false) → b ≡ a
        → IsKept g before (Does (acts.Gives t bytes) ∷ past) new_log b
    quiet t bytes log_is others e = given_kept t bytes log_is e (λ c known. others c)

    kept_given : (t : BoardTurn) (bytes : List ℕ) → new_log ≡ log ++ given_act t bytes → OpensAnew t log → FeedsBy t bytes a b
        → IsKept g before (given_deeds t bytes past) new_log b × IsNew t (given_deeds t bytes past) b
    kept_given (turn.Opened c) bytes log_is anew e = (given_kept (turn.Opened c) bytes log_is e (λ d known. not_new c d anew known), is_new c bytes anew e)
    kept_given (turn.Bytes c n) bytes log_is anew (inl (missing, e)) =
        (given_kept (turn.Bytes c n) bytes log_is e (λ d known. ne_eqb c d (λ same. missing kept.sorted (subst (λ m. IsKnown m a.connections.items) (sym same) known))), tt)
    kept_given (turn.Bytes c n) bytes log_is anew (inr feeds) = (fed_kept c n bytes log_is feeds, tt)
    kept_given (turn.Closed c) bytes log_is anew e = (quiet (turn.Closed c) bytes log_is (λ d. refl) e, tt)
    kept_given (turn.Broken c) bytes log_is anew e = (quiet (turn.Broken c) bytes log_is (λ d. refl) e, tt)
    kept_given (turn.Control n) bytes log_is anew e = (quiet (turn.Control n) bytes log_is (λ d. refl) e, tt)
    kept_given turn.Idle bytes log_is anew e = (quiet turn.Idle bytes log_is (λ d. refl) e, tt)
    kept_given turn.End bytes log_is anew e = (quiet turn.End bytes log_is (λ d. refl) e, tt)
    kept_given turn.Failed bytes log_is anew e = (passes log_is e, tt)
    kept_given turn.NoMemory bytes log_is anew e = (passes log_is e, tt)

    pub receives : (t : BoardTurn) (bytes : List ℕ) → new_log ≡ log ++ given_act t bytes → OpensAnew t log → FeedsBy t bytes a b
        → IsKept g before (given_deeds t bytes past) new_log b × IsNew t (given_deeds t bytes past) b × OpensOnce t past
    receives t bytes log_is anew feeds = (let k = kept_given t bytes log_is anew feeds in (k.0, k.1, opens_once t anew))

-- ---- as a board tells of it

given_are : (t : BoardTurn) (into : List ℕ) → given_acts t into ≡ given_act t (bytes_in t into)
given_are (turn.Opened c) into = refl
given_are (turn.Bytes c n) into = refl
given_are (turn.Closed c) into = refl
given_are (turn.Broken c) into = refl
given_are (turn.Control n) into = refl
given_are turn.Idle into = refl
given_are turn.End into = refl
given_are turn.Failed into = refl
given_are turn.NoMemory into = refl

pub given_so : (log : List Act) (t : BoardTurn) (into : List ℕ) {new_log : List Act} → new_log ≡ log ++ given_acts t into → new_log ≡ log ++ given_act t (bytes_in t into)
given_so log t into e = e ∙ ap (λ xs. log ++ xs) (given_are t into)

pub not_fed : (t : BoardTurn) (bytes : List ℕ) (s : Server) → ((c n : ℕ) → t ≡ turn.Bytes c n → ⊥) → FeedsBy t bytes s s
not_fed (turn.Bytes c n) bytes s other = absurd (other c n refl)
not_fed t bytes s other = refl

-- ---- what is counted

pub fails_by : (t : BoardTurn) (old new : BoardView) → (t ≡ turn.Failed → BoardFailed old new) → (t ≢ turn.Failed → NoBoardFailed old new) → FailsBy t old new
fails_by turn.Failed old new cause spared = cause refl
fails_by t old new cause spared = spared (λ e. cc e)

-- bytes came for which there is no memory
pub gives_bytes : (r : Result BoardTurn Stopped) (c n : ℕ) (bytes : List ℕ) (old new : BoardView) → new.log ≡ old.log ++ acts.Gives (turn.Bytes c n) bytes ∷ []
    → (turn.Bytes c n ≢ turn.Failed → NoBoardFailed old new) → OnErr r (GivesOne old.log new.log × NoBoardFailed old new)
gives_bytes (Ok t) c n bytes old new log spared = tt
gives_bytes (Err stopped) c n bytes old new log spared = (record { turn = turn.Bytes c n; bytes = bytes; anew = tt; log = log }, spared (λ e. cc e))
