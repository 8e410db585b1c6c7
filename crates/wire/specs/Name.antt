-- Names of the format, as bytes.
use Rattle.std.specs.Prelude.{ℕ, List}
use Rattle.wire.specs.Quoted.{bytes}

abbrev pub t_file : List ℕ
t_file = bytes "TFile"

abbrev pub t_directory : List ℕ
t_directory = bytes "TDirectory"

abbrev pub t_list : List ℕ
t_list = bytes "TList"

abbrev pub streamer_info : List ℕ
streamer_info = bytes "StreamerInfo"
