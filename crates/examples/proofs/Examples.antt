-- The definitions give what the table of worked examples says, by computing it.
use mathlib.Core.Bool.{true}
use mathlib.Core.Path.{◌≡◌, refl}
use Rattle.wire.specs.Check.{all}
use Rattle.wire.specs.Equal.{eq_bytes}
use Rattle.wire.specs.Layout.{width_of}
use Rattle.wire.specs.Number.{be_value, num_at, be_bytes, signed_of, bits_of}
use Rattle.wire.specs.Text.{prefix_bytes, prefix_size, text_size, text_of, length_at, text_at, text_in, on_text, content_of, text_bytes}
use Rattle.date.specs.Date.{packed, pack_answer}
use Rattle.key.specs.Header.{key_at, names_in, header_in}
use Rattle.key.specs.Piece.{size_at, record_there, piece_at, piece_answer, on_record}
use Rattle.key.specs.Writer.{header_bytes, name_bytes}
use Rattle.record.specs.Name.{same_bytes, named}
use Rattle.fileheader.specs.File.{file_head, end_fits, opened_as}
use Rattle.directory.specs.Dir.{dir_at, dir_in, kept_if, head_dir_in, head_in, dir_of}
use Rattle.keylist.specs.Keys.{data_in, free_in, list_class, list_in, copy_in}
use Rattle.rules.specs.Free.{segments_at, segments_end, segment_version, versions_fit, gaps, last_fits, list_gaps, held_to, free_holds, info_holds}
use Rattle.rules.specs.Order.{chain, ruled, verdict}
use Rattle.rules.specs.Row.{starts}
use Rattle.rules.specs.Turn.{row_of, listed_mark, copy_turn, copies, data_turn, keys_in, keys_turn, dir_turn, round_turn, next_row, rounds, first_part}
use Rattle.infofield.specs.Field.{field_at, numbers_at, end_of, count_at, versioned_at, ended_at}
use Rattle.infofield.specs.Field.{text_field_at, unnamed_at, zero_at, object_at}
use Rattle.classname.specs.Find.{first_in}
use Rattle.classname.specs.Name.{class_of}
use Rattle.infotag.specs.Tag.{class_name_at, new_tag, old_tag, tag_at, head_at}
use Rattle.infoelement.specs.Element.{named_at, class_body_at, details_at, base_at, counter_at, own_at, member_at}
use Rattle.infolist.specs.List.{collection_at, array_body_at, whole_list_at, list_of, info_list_at, option_at}
use Rattle.inforow.specs.Row.{flat}
use Rattle.streamer.specs.Row.{times, onward, element_at}
use Rattle.streamer.specs.Info.{elements_at, array_at, class_at, list_object_at, info_at}
use Rattle.streamer.specs.Info.{info_answer, info_table}
use Rattle.examples.specs.Worked.{examples}

pub worked : all examples ≡ true
unfolding eq_bytes width_of be_value num_at be_bytes signed_of bits_of prefix_bytes prefix_size text_size text_of length_at text_at text_in on_text content_of
    text_bytes packed pack_answer key_at names_in header_in size_at record_there piece_at piece_answer on_record header_bytes name_bytes same_bytes
    named file_head end_fits opened_as
    dir_at dir_in kept_if head_dir_in head_in dir_of data_in free_in list_class list_in copy_in segments_at segments_end segment_version versions_fit
    gaps last_fits list_gaps held_to free_holds info_holds chain ruled verdict starts row_of listed_mark copy_turn copies data_turn keys_in keys_turn
    dir_turn round_turn next_row rounds first_part
    field_at numbers_at end_of count_at versioned_at ended_at text_field_at unnamed_at zero_at object_at first_in
    class_of class_name_at new_tag old_tag tag_at head_at named_at class_body_at details_at base_at counter_at own_at member_at
    collection_at array_body_at whole_list_at list_of info_list_at option_at flat times onward element_at elements_at array_at class_at list_object_at
    info_at info_answer info_table
worked = refl
