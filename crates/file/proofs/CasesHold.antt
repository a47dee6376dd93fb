-- The lines and short inputs hold: the checker computes what the definitions give.
use lib.Dec.{T}
use Rattle.calendar.specs.Gregorian.{is_leap, has_thirty, days_of_month, first_of_month, first_day}
use Rattle.rules.specs.Basics.{within, all_to, all_in, list_to}
use Rattle.rules.specs.World.{table_of, month_first, month_days, kind_of, owner_of, marks_of, marked, line_count}
use Rattle.rules.specs.WellFormed.{within_limits, rows_fit, question2, reading_count, line_places, opening_sized, tables_sized, lines_sized}
use Rattle.rules.specs.WellFormed.{question3, price_limit, price_size, element_right, question4}
use Rattle.rules.specs.Effects.{ask}
use Rattle.rules.specs.Opening.{opening_answer, opened}
use Rattle.file.specs.Bytes.{followed, bytes_number, number_in, twos_complement, signed64}
use Rattle.file.specs.Field.{tag_of, length_of, marks_in, tag_allowed, element_length, length_due, header_right, message_fields, month_in}
use Rattle.file.specs.Field.{field_named, right_field, whole_field, field_of}
use Rattle.file.specs.Element.{price_at, prices_in}
use Rattle.file.specs.Decimal.{digits_to, decimal, signed_decimal}
use Rattle.file.specs.Lines.{measures_then, book_line, record_names, record_line, refused_line}
use Rattle.file.specs.Encode.{number_bytes, encode_field, encode_month, complement, encode_prices, element_value, encode_element}
use Rattle.file.specs.Program.{ended_by, on_message, messages_from, described_all, prices_all, collected, lent_for, settle_answer}
use Rattle.file.specs.Program.{open_then}
use Rattle.file.specs.Program.{on_element, elements_from, on_month, settled}
use Rattle.file.specs.Cases.{march, elements, cases, same_bytes, holds}

pub cases_hold : T (all_in holds cases)
unfolding is_leap has_thirty days_of_month first_of_month first_day within all_to all_in list_to table_of month_first month_days kind_of
    owner_of marks_of marked line_count within_limits rows_fit question2 reading_count line_places opening_sized tables_sized
    lines_sized question3 price_limit price_size element_right question4 ask opening_answer opened followed bytes_number number_in
    twos_complement signed64 tag_of length_of marks_in tag_allowed element_length length_due header_right message_fields month_in
    field_named right_field whole_field field_of price_at prices_in digits_to decimal signed_decimal measures_then book_line
    record_names record_line refused_line number_bytes encode_field encode_month complement encode_prices element_value encode_element
    ended_by on_message messages_from described_all prices_all collected lent_for settle_answer open_then on_element elements_from
    on_month settled march elements cases same_bytes holds
cases_hold = tt
