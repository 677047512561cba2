-- How the lines of the script are spelled.
use Rattle.std.specs.Prelude.{ℕ, ◌+◌, List, codes}
use Rattle.std.specs.Fmt.{decimal}
use Rattle.report_text.specs.Report.{◌&◌, pair}
use Rattle.gen_script.specs.declared.line.ScriptLine.{ScriptLine}
use Rattle.gen_script.specs.declared.line.ScriptLine.TheVariants.{Plug, Settle, Link, Host, Block, Unblock, Packet, Quit}

-- the Ethernet address of a host
abbrev pub address : ℕ → List ℕ
address h = codes "02:00:00:00:00:" & pair h

-- the IP address of a source
abbrev pub source_text : ℕ → List ℕ
source_text a = codes "10.0.0." & decimal a

-- a line, with its line feed; host h is behind port 10 + h of its switch
abbrev pub spelled : ScriptLine → List ℕ
spelled (Plug c) = codes "plug " & decimal c & codes "\n"
spelled Settle = codes "settle\n"
spelled (Link s p t q) = codes "link " & decimal s & codes " " & decimal p & codes " " & decimal t & codes " " & decimal q & codes "\n"
spelled (Host h s) = codes "host " & address h & codes " " & decimal s & codes " " & decimal (10 + h) & codes "\n"
spelled (Block a) = codes "set blocked " & source_text a & codes " 1\n"
spelled (Unblock a) = codes "unset blocked " & source_text a & codes "\n"
spelled (Packet c p h a) =
    codes "packet " & decimal c & codes " " & decimal p & codes " dl_dst=" & address h & codes " nw_src=" & source_text a & codes " tp_dst=80\n"
spelled Quit = codes "quit\n"
