-- `unfolding computed` opens every definition, so that the checker computes with them. Assumes nothing.
use Rattle.metafile.specs.Bytes.{all, is_zero, non_zero, is_empty, same, member, starts, find, total, sum, ◌⊳◌, require, choose}
use Rattle.metafile.specs.Fields.{is_digit, number_from, number, digits_to, digits_of, is_count, count_value, is_text, padded, leap, month_days, year_of, month_of, day_of, is_date, is_space, take_while, drop_while, point_passed, digits_before, point_on, digits_behind, spaces_behind, is_decimal, second, decimal_units, is_offset, offset_units, offset_value, is_serial, same_serial, known}
use Rattle.metafile.specs.Days.{is_day, next_day, year_days, years_days, months_days, day_on, dated, day_number, day_in, day_read, serial_read, day_fault, day_value_of}
use Rattle.metafile.specs.Lines.{field_fault, fixed_fault, count_fault, text_fault, date_fault, offset_fault, serial_fault, word_fault, stamp_fault, free_fault, width, kind_fault, field_width, fault, size, run, first_of, others_of, put, left, write, formed, lf, opened, lines_of, i12, i4, chunk_header_length, sub_format_id, generic_type, time_synch_type, time_standard, time_offset, event_synch, dependency_length, dependency_count, dependency_serial, dependency_sub_format, content_length, multi_header_length, type_count, sub_type_length, short_id, chunk_serial, recording_date, recording_agent, writing_date, writing_agent, checksum, format_id, separator_strategy, time_and_event, table}
use Rattle.metafile.specs.Closing.{integrity_lines, summed, unsummed, closing, sum_place, closing_end, closing_serial, sum_good, integrity_values, summed_bytes, closing_bytes}
use Rattle.metafile.specs.Header.{title, is_llc, mark_length, mark_of, title_fault, mark_fault, header_fault, header_end, header_good}
use Rattle.metafile.specs.Multi.{multi_head, multi_length, types_of, type_length, type_specific, type_bytes, type_id, multi_length_for, type_fault, types_fault, types_bytes, type_ids, mini_label, mini_id, mini_data, mini_fault, minis_fault, minis_end, minis_joined, minis_place, declared_ids, multi_fault, multi_bytes, multi_joined}
use Rattle.metafile.specs.Chunk.{given_lines, head_lines, head, header_length, sub_format, generic, synch_type, standard, offset_bytes, dependency_bytes, dependencies, multi_name, is_multi, dependency_length_for, header_length_for, header_bytes_for, specific, lengths_fault, dependency_fields, dependency_serial_of, dependency_sub_format_of, specific_place, header_bytes, chunk_header_fault, content_count, data_bytes, plain_bytes, plain_fault, contents_fault, contents_from, contents_long, contents_place, contents_bytes, closing_place, chunk_end, serial_of, chunk_fault, ending_of, chunk_ending, offset_under, row_at}
use Rattle.metafile.specs.Reading.{halt, onto, next_fault, read_rows, with_header, unbegun, read_file, reading, rows_of, serials_of, is_clean}
use Rattle.metafile.specs.Answers.{flag, count_answer, parent_answer, append_answer, checked_answer, ancestors_answer, refuse, first_refusal, limit, over_limit, placed, unless_refused}
use Rattle.metafile.specs.Begin.{title_values, title_bytes, begun_file, begin_formed, begin_tests, begin}
use Rattle.metafile.specs.Append.{sub_format_given, serial_words, stamp_given, given_values, integrity_given, over_long, append_formed, no_row, row_no, sub_format_of, parent_values, all_below, is_in, repeated, parents_wrong, head_values, content_count_for, first_write, third_write, new_chunk, first_end, second_end, third_end, open_wrong, append_over_limit, append_tests, append}
use Rattle.metafile.specs.Calls.{read_answer, nothing_read, filled, read, row_with, chunk_of, parent_row, agree, parent_tests, parent, row_contents, contents_tests, contents, multi_of, gathered, gather_tests, gather}
use Rattle.metafile.specs.Cut.{write_start, write_end, zeroed, left_over, remains}
use Rattle.metafile.specs.Demand.{Accepted, finished, new_row, integrity_at}
use Rattle.metafile.specs.Listing.{unpadded, decimal, line_of, good_or_bad, row_line, row_lines, end_line, header_word, listed, listing}
use Rattle.metafile.specs.Below.{any_below, join_below, sum_below, fault_below}
use Rattle.metafile.specs.Closure.{by_way, within, circular_from}
use Rattle.metafile.specs.Ancestors.{depends_on, reaches, is_ancestor, ancestor_rows, rests_on, missing_of, missing, circular, ancestors_tests, ancestors}
use Rattle.metafile.specs.Relations.{relations_name, is_relations, divided, onto_first, split_on, lined, heading, relation_name, is_listed, relation_line, line_if_listed, lines_of_row, relation_lines, relations_text, relations_write_tests, relations_write, is_serial_field, is_name_field, well_formed, is_parent_of, chunk_declares, row_declares, is_declared, verdict_by, verdicts_by, verdicts, contents_lines, relations_check_tests, relations_check, writing_date_of, writing_day, latest_below, relations_row, with_row, relations_check_latest}

unfoldable pub computed : Unit {0}
unfolding all is_zero non_zero is_empty same member starts find total sum ◌⊳◌ require choose is_digit number_from number digits_to digits_of is_count count_value is_text padded leap month_days year_of month_of day_of is_date is_space take_while drop_while point_passed digits_before point_on digits_behind spaces_behind is_decimal second decimal_units is_offset offset_units offset_value is_serial same_serial known is_day next_day year_days years_days months_days day_on dated day_number day_in day_read serial_read day_fault day_value_of field_fault fixed_fault count_fault text_fault date_fault offset_fault serial_fault word_fault stamp_fault free_fault width kind_fault field_width fault size run first_of others_of put left write formed lf opened lines_of i12 i4 chunk_header_length sub_format_id generic_type time_synch_type time_standard time_offset event_synch dependency_length dependency_count dependency_serial dependency_sub_format content_length multi_header_length type_count sub_type_length short_id chunk_serial recording_date recording_agent writing_date writing_agent checksum format_id separator_strategy time_and_event table integrity_lines summed unsummed closing sum_place closing_end closing_serial sum_good integrity_values summed_bytes closing_bytes title is_llc mark_length mark_of title_fault mark_fault header_fault header_end header_good multi_head multi_length types_of type_length type_specific type_bytes type_id multi_length_for type_fault types_fault types_bytes type_ids mini_label mini_id mini_data mini_fault minis_fault minis_end minis_joined minis_place declared_ids multi_fault multi_bytes multi_joined given_lines head_lines head header_length sub_format generic synch_type standard offset_bytes dependency_bytes dependencies multi_name is_multi dependency_length_for header_length_for header_bytes_for specific lengths_fault dependency_fields dependency_serial_of dependency_sub_format_of specific_place header_bytes chunk_header_fault content_count data_bytes plain_bytes plain_fault contents_fault contents_from contents_long contents_place contents_bytes closing_place chunk_end serial_of chunk_fault ending_of chunk_ending offset_under row_at halt onto next_fault read_rows with_header unbegun read_file reading rows_of serials_of is_clean flag count_answer parent_answer append_answer checked_answer ancestors_answer refuse first_refusal limit over_limit placed unless_refused title_values title_bytes begun_file begin_formed begin_tests begin sub_format_given serial_words stamp_given given_values integrity_given over_long append_formed no_row row_no sub_format_of parent_values all_below is_in repeated parents_wrong head_values content_count_for first_write third_write new_chunk first_end second_end third_end open_wrong append_over_limit append_tests append read_answer nothing_read filled read row_with chunk_of parent_row agree parent_tests parent row_contents contents_tests contents multi_of gathered gather_tests gather write_start write_end zeroed left_over remains Accepted finished new_row integrity_at unpadded decimal line_of good_or_bad row_line row_lines end_line header_word listed listing any_below join_below sum_below fault_below by_way within circular_from depends_on reaches is_ancestor ancestor_rows rests_on missing_of missing circular ancestors_tests ancestors relations_name is_relations divided onto_first split_on lined heading relation_name is_listed relation_line line_if_listed lines_of_row relation_lines relations_text relations_write_tests relations_write is_serial_field is_name_field well_formed is_parent_of chunk_declares row_declares is_declared verdict_by verdicts_by verdicts contents_lines relations_check_tests relations_check writing_date_of writing_day latest_below relations_row with_row relations_check_latest
computed = tt
