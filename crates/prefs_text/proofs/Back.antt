-- What is printed of a value is a text of it.
use Rattle.std.proofs.Common.{refl}
use Rattle.prefs_model.specs.declared.pref_value.PrefValue.{PrefValue}
use Rattle.prefs_model.specs.declared.pref_value.PrefValue.TheVariants.{Bool as Truth, Int, Long, Float, Double, Text, Texts}
use Rattle.prefs_model.specs.Value.{IsValue}
use Rattle.prefs_model.proofs.Sets.{is_set_of}
use Rattle.std.specs.Prelude.{codes}
use Rattle.std.specs.List.{join_by}
use Rattle.json.specs.Print.{escape, quoted}
use Rattle.prefs_text.specs.Content.{IsContent}
use Rattle.prefs_text.specs.PlainWord.{IsPlainWord}
use Rattle.prefs_text.specs.Reading.{IsValueText}
use Rattle.prefs_text.specs.ValueKind.{IsScalar, kind_of}
use Rattle.prefs_text.specs.ValueText.{plain_text, value_text}
use Rattle.prefs_text.proofs.InLine.{line-list_text}
use Rattle.prefs_text.proofs.JsonBack.{read-quoted, read-list_text}

plain : (value : PrefValue) → IsScalar (kind_of value) → IsValue value → IsPlainWord (kind_of value) (plain_text value) value
plain value scalar valid = record { scalar = scalar; of_kind = refl; valid = valid; text = refl }

reads_plain_text : (value : PrefValue) → IsValue value → IsContent (plain_text value) value
reads_plain_text (Truth b) valid = plain (Truth b) tt valid
reads_plain_text (Int number) valid = plain (Int number) tt valid
reads_plain_text (Long number) valid = plain (Long number) tt valid
reads_plain_text (Float bits) valid = plain (Float bits) tt valid
reads_plain_text (Double bits) valid = plain (Double bits) tt valid
reads_plain_text (Text text) valid = record { marks = (escape text, refl); reads = read-quoted text }
reads_plain_text (Texts set) valid = record {
  texts = set;
  list = record { brackets = (join_by quoted (codes ",") set, refl); line = line-list_text set; reads = read-list_text set };
  sorted = is_set_of set set valid (λ text. refl);
}

pub reads_value_text : (value : PrefValue) → IsValue value → IsValueText (value_text value) value
reads_value_text value valid = record { content = plain_text value; words = refl; reads = reads_plain_text value valid }
