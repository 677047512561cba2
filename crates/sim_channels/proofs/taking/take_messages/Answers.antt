use Rattle.sim_channels.proofs.Emptied.{takes_messages}
use Rattle.sim_channels.proofs.taking.take_messages.Goals as goal

pub returns-clause-takes : goal.returns-clause-takes
returns-clause-takes g c =
    takes_messages c.args.connection c.in-Out.bytes c.messages_ahead-messages.result.value c.args.desk.now c.ask.new.self c.in_ok-bytes.field-0 c.in-Out.is
    c.in_ok-bytes.ensures.ok.enters c.messages_ahead-messages.ensures
