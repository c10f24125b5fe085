use Rattle.std.proofs.Common.{◌≡◌, true, ◌^◌, ◌<◌, take}
use Rattle.std.specs.List.{list_all}
use Rattle.std.specs.Char.{is_ascii_digit}
use Rattle.std.specs.Str.Parse.{digits_value}
use Rattle.adm_http.proofs.lengths.body_length.Given as goal

abbrev pub invariant-loop-byte : goal.invariant-loop-byte
invariant-loop-byte l = record {
  value : l.value ≡ digits_value 10 (take l.byte-index l.bytes);
  digits : list_all is_ascii_digit (take l.byte-index l.bytes) ≡ true;
  small : l.value < 10 ^ l.byte-index;
}
