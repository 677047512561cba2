use Rattle.policy_tokens.proofs.Readings.{keywords_read, signs_read, fields_read, packet_switch_read, names_read, switches_read, ports_read}
use Rattle.policy_tokens.proofs.laws.spelling_laws.Goals as goal

pub returns : goal.returns
returns c =
    record {
      keywords = keywords_read;
      signs = signs_read;
      fields = fields_read;
      packet_switch = packet_switch_read;
      names = names_read;
      switches = switches_read;
      ports = ports_read;
    }
