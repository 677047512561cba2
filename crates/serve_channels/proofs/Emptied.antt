-- What was taken out of the machine for an open session doesn't wait there any more.
use Rattle.std.proofs.Common.{◌≡◌, ◌≢◌, ℕ, ◌==◌, Bool, true, false, not, ◌&&◌, ◌||◌, List, [], ◌∷◌, map, eq-eqb, refl, sym, ap, ◌∙◌, subst, inl, inr, ⊎_elim}
use Rattle.std.proofs.Math.Bool.{or-true}
use Rattle.std.specs.Prelude.{Some, is_some}
use Rattle.std.specs.List.{slice_get}
use Rattle.std.proofs.lemmas.Bool.{and_parts, cases_Bool, ne_eqb}
use Rattle.std.proofs.lemmas.Option.{same_Some}
use Rattle.maple_io.specs.declared.act.Act.{Act}
use Rattle.maple_io.specs.Boards.{BoardView}
use Rattle.machine_steps.specs.declared.entry.Entry.TheVariants as entries
use Rattle.machine_steps.specs.declared.reply.Reply.{Reply}
use Rattle.machine_steps.specs.declared.reply.Reply.TheVariants as replies
use Rattle.machine_steps.specs.Machine.{Session, State, session_at}
use Rattle.machine_moves.specs.Moves.{Fares, TakesBy}
use Rattle.machine_sharing.specs.Legal.{call_of}
use Rattle.machine_desk.specs.Desks.{DeskView}
use Rattle.machine_desk.specs.Hearing.{is_live}
use Rattle.machine_desk.specs.declared.inbound.Inbound.{Inbound}
use Rattle.machine_desk.specs.Laws.{Meanwhile}
use Rattle.world_steps.specs.Worlds.{messages_for, outbox_of}
use Rattle.core_machine.proofs.Hearing.{set_there}
use Rattle.machine_desk.proofs.Lists.{set_beside, some_at}
use Rattle.machine_desk.specs.Next.{EntersNext}
use Rattle.machine_desk.proofs.Tended.{ahead, meanwhile_ahead, enters_next}
use Rattle.serve_steps.specs.Deeds.{Deed, Past, ends, ends_by_link, is_of, is_over, tells_end, tells_link_end, was_cut}
use Rattle.serve_steps.specs.Deeds.Deed.{Enters, Does}
use Rattle.serve_channels.specs.declared.connection.Connection.{Connection}
use Rattle.serve_channels.specs.declared.server.Server.{Server}
use Rattle.serve_channels.specs.Delivering.{Empties, Leaves, SendsOut, TakesOut}
use Rattle.serve_channels.specs.Keeping.{IsServing}
use Rattle.serve_channels.specs.Servers.{number_of}
use Rattle.serve_channels.specs.Serving.{ServingLaws}
use Rattle.serve_channels.proofs.Entering.{next_lawful, next_session}
use Rattle.serve_channels.proofs.Others.{IsLawful, meanwhile_lawful}
use Rattle.serve_channels.proofs.TakenOut.{with_more}
use Rattle.serve_channels.proofs.Sorted.{apart}

-- a session that is there behind an entry, and what became of it
record IsThere (c d : ℕ) (s : Session) (b : DeskView) : Type 0 where
  pub behind : Session
  pub there : session_at c b.now ≡ Some behind
  pub takes : TakesBy (d == c) s behind

module _ (laws : ServingLaws) where
  -- with no packet waiting others change nothing
  pub nothing_beside : (a b : DeskView) → IsLawful a → Meanwhile a b → a.now.jobs ≡ [] → b.now ≡ a.now
  nothing_beside a b law h none =
      laws.driving.nothing (map call_of a.past) (map call_of h.turns) a.now b.now none (laws.driving.calls a.now h.turns b.now law.sound h.leads).replays h.allowed

  module _ (a b : DeskView) (d : ℕ) (bytes : List ℕ) (law : IsLawful a) (h : EntersNext (entries.TakeOut d) (replies.Out bytes) a b) where
    still : (c : ℕ) → is_some (session_at c b.now) ≡ is_some (session_at c a.now)
    still c = (next_session laws law h c (λ e. absurd (cc)) refl).live

    is_there : (c : ℕ) (s : Session) → session_at c a.now ≡ Some s → IsThere c d s b
    is_there c s e = by (laws.driving.moves a.now (entries.TakeOut d) (replies.Out bytes) b.now law.sound tt h.made.steps c s e)
      where
        by : Fares c a.now (entries.TakeOut d) (replies.Out bytes) b.now s → IsThere c d s b
        by (inl lacks) = absurd (cc lacks.0)
        by (inr (inl none)) = (let f : true ≡ false = sym (still c ∙ ap is_some e) ∙ ap is_some none in absurd (cc f))
        by (inr (inr stays)) = record { behind = stays.behind; there = stays.there; takes = stays.moves }

    messages_behind : (c : ℕ) (s : Session) → session_at c b.now ≡ Some s → messages_for c b.now ≡ s.outbox
    messages_behind c s e = ap outbox_of (laws.driving.kept b.now c s (next_lawful laws law h).sound e)

    -- its own
    pub none_wait : is_some (session_at d a.now) ≡ true → messages_for d b.now ≡ []
    none_wait plugged =
        let found = some_at (session_at d a.now) plugged in
        let now = is_there d found.0 found.1 in
        let takes : TakesBy true found.0 now.behind = subst (λ (x : Bool). TakesBy x found.0 now.behind) (eq-eqb d d refl) now.takes in
        messages_behind d now.behind now.there ∙ ap (λ (t : Session). t.outbox) takes

    -- those of another stay
    pub others_wait : (c : ℕ) → (d == c) ≡ false → is_some (session_at c a.now) ≡ true → messages_for c b.now ≡ messages_for c a.now
    others_wait c other plugged =
        let found = some_at (session_at c a.now) plugged in
        let now = is_there c found.0 found.1 in
        let takes : TakesBy false found.0 now.behind = subst (λ (x : Bool). TakesBy x found.0 now.behind) other now.takes in
        messages_behind c now.behind now.there ∙ ap (λ (t : Session). t.outbox) takes ∙ sym (ap outbox_of (laws.driving.kept a.now c found.0 law.sound found.1))

-- ---- what was taken out, where no packet waits

module _ (laws : ServingLaws) {log : List Act} {at : ℕ} {a b : Server} (serving : IsServing log a) (law : IsLawful a.desk) (takes : TakesOut at a b)
    (none : a.desk.now.jobs ≡ []) where
  abbrev c : ℕ
  c = number_of takes.connection

  abbrev mid : DeskView
  mid = ahead takes.asks.enters

  between : Meanwhile a.desk mid
  between = meanwhile_ahead takes.asks.enters

  same_now : mid.now ≡ a.desk.now
  same_now = nothing_beside laws a.desk mid law between none

  mid_law : IsLawful mid
  mid_law = meanwhile_lawful laws law between refl

  next : EntersNext (entries.TakeOut c) (replies.Out takes.bytes) mid b.desk
  next = enters_next takes.asks.enters

  lawful_behind : IsLawful b.desk
  lawful_behind = next_lawful laws mid_law next

  none_behind : b.desk.now.jobs ≡ []
  none_behind = laws.driving.none mid.now (entries.TakeOut c) (replies.Out takes.bytes) b.desk.now (ap (λ (m : State). m.jobs) same_now ∙ none) refl next.made.steps

  -- its session, and any other, stands as the connection tells
  plugged : (n : ℕ) (k : Connection) → slice_get a.connections.items n ≡ Some k → is_live k.inbound.stage ≡ true → is_some (session_at (number_of k) mid.now) ≡ true
  plugged n k there live = ap (λ (m : State). is_some (session_at (number_of k) m)) same_now ∙ (serving.kept.sessions.staged n k there).live ∙ live

  own_behind : is_live takes.connection.inbound.stage ≡ true → messages_for c b.desk.now ≡ []
  own_behind live = none_wait laws mid b.desk c takes.bytes mid_law next (plugged at takes.connection takes.there live)

  others_behind : (n : ℕ) (k : Connection) → n ≢ at → slice_get a.connections.items n ≡ Some k → is_live k.inbound.stage ≡ true
      → messages_for (number_of k) a.desk.now ≡ [] → messages_for (number_of k) b.desk.now ≡ []
  others_behind n k other there live empty =
      others_wait laws mid b.desk c takes.bytes mid_law next (number_of k)
      (ne_eqb c (number_of k) (λ e. apart a.connections.items serving.kept.sorted at n takes.connection k takes.there there other (sym e))) (plugged n k there live)
      ∙ ap (messages_for (number_of k)) same_now ∙ empty

  -- and then sent
  module _ {d : Server} {failed : Bool} {from to : BoardView} (sends : SendsOut at failed b d from to) where
    same_desk : d.desk ≡ b.desk
    same_desk = ap (λ (s : Server). s.desk) sends.rest

    pub none_sent : d.desk.now.jobs ≡ []
    none_sent = ap (λ (x : DeskView). x.now.jobs) same_desk ∙ none_behind

    pub lawful_sent : IsLawful d.desk
    lawful_sent = subst IsLawful (sym same_desk) lawful_behind

    is_it : sends.connection ≡ with_more takes.connection takes.bytes
    is_it = same_Some sends.connection (with_more takes.connection takes.bytes)
        (sym sends.there ∙ ap (λ (ks : List Connection). slice_get ks at) takes.connections
        ∙ set_there a.connections.items at takes.connection (with_more takes.connection takes.bytes) takes.there)

    there_sent : slice_get d.connections.items at ≡ Some (record sends.connection { queue = sends.queue })
    there_sent = ap (λ (ks : List Connection). slice_get ks at) sends.connections ∙ set_there b.connections.items at sends.connection (record sends.connection { queue = sends.queue }) sends.there

    same_inbound : (k : Connection) → slice_get d.connections.items at ≡ Some k → k.inbound ≡ takes.connection.inbound
    same_inbound k there =
        ap (λ (x : Connection). x.inbound) (same_Some k (record sends.connection { queue = sends.queue }) (sym there ∙ there_sent)) ∙ ap (λ (x : Connection). x.inbound) is_it

    was_there : (n : ℕ) (k : Connection) → n ≢ at → slice_get d.connections.items n ≡ Some k → slice_get a.connections.items n ≡ Some k
    was_there n k other there =
        sym (ap (λ (ks : List Connection). slice_get ks n) sends.connections ∙ set_beside b.connections.items at n (record sends.connection { queue = sends.queue }) other
        ∙ ap (λ (ks : List Connection). slice_get ks n) takes.connections ∙ set_beside a.connections.items at n (with_more takes.connection takes.bytes) other) ∙ there

    pub empties_sent : Empties at failed a d
    empties_sent = record {
      none = none_sent;
      own = λ fine k there live.
          ap (λ (x : DeskView). messages_for (number_of k) x.now) same_desk ∙ ap (λ (i : Inbound). messages_for i.connection b.desk.now) (same_inbound k there)
          ∙ own_behind (sym (ap (λ (i : Inbound). is_live i.stage) (same_inbound k there)) ∙ ap is_live live);
      others = λ fine n other taken k there live.
          ap (λ (x : DeskView). messages_for (number_of k) x.now) same_desk
          ∙ others_behind n k other (was_there n k other there) (ap is_live live) (taken k (was_there n k other there) live);
    }

-- the session ends by its link
pub none_left : ServingLaws → {at : ℕ} {d e : Server} → IsLawful d.desk → d.desk.now.jobs ≡ [] → Leaves at true d e → e.desk.now.jobs ≡ []
none_left laws {d = d} {e = e} law none leaves =
    let enters = leaves.does.enters in
    let same : enters.between ≡ d.desk.now = nothing_beside laws d.desk (ahead enters) law (meanwhile_ahead enters) none in
    laws.driving.none enters.between (entries.Gone (number_of leaves.connection) true) leaves.does.reply e.desk.now (ap (λ (m : State). m.jobs) same ∙ none) refl enters.made.steps

pub empties_left : ServingLaws → {log : List Act} {at : ℕ} {a b d e : Server} {from to : BoardView} → IsServing log a → IsLawful a.desk → TakesOut at a b
    → SendsOut at true b d from to → Leaves at true d e → a.desk.now.jobs ≡ [] → Empties at true a e
empties_left laws serving law takes sends leaves none = record {
  none = none_left laws (lawful_sent laws serving law takes none sends) (none_sent laws serving law takes none sends) leaves;
  own = λ fine. absurd (cc fine);
  others = λ fine. absurd (cc fine);
}

-- a session that ended by its link has ended
link_ends : (r : Reply) → tells_link_end r ≡ true → tells_end r ≡ true
link_ends (replies.Ended end) h = refl
link_ends r h = absurd (cc h)

cuts_end : (c : ℕ) (d : Deed) → ends_by_link c d ≡ true → ends c d ≡ true
cuts_end c (Enters t) h =
    let parts = and_parts (is_of c t.entry) (tells_link_end t.reply) h in
    ap (λ (x : Bool). x && tells_end t.reply) parts.0 ∙ link_ends t.reply parts.1
cuts_end c (Does act) h = absurd (cc h)

cut_is_over : (c : ℕ) (past : Past) → was_cut c past ≡ true → is_over c past ≡ true
cut_is_over c [] h = absurd (cc h)
cut_is_over c (d ∷ past) h =
    ⊎_elim
    (λ e. ap (λ (x : Bool). x || is_over c past) (cuts_end c d e))
    (λ e. ap (λ (x : Bool). ends c d || x) (cut_is_over c past (sym (ap (λ (x : Bool). x || was_cut c past) e) ∙ h)) ∙ or-true (ends c d))
    (cases_Bool (ends_by_link c d))

pub empties_cut : (log : List Act) (at : ℕ) (s : Server) (k : Connection) → IsServing log s → slice_get s.connections.items at ≡ Some k → k.cut ≡ true
    → s.desk.now.jobs ≡ [] → Empties at false s s
empties_cut log at s k serving there cut none =
    let agrees = serving.kept.agree at k there in
    let over : not (is_live k.inbound.stage) ≡ true = sym agrees.over ∙ cut_is_over (number_of k) serving.past (sym agrees.cut ∙ cut) in
    record {
      none = none;
      own = λ fine l is live.
          (let same : is_live k.inbound.stage ≡ true = ap (λ (x : Connection). is_live x.inbound.stage) (same_Some k l (sym there ∙ is)) ∙ ap is_live live in
          absurd (cc (sym over ∙ ap not same)));
      others = λ fine n other taken. taken;
    }
