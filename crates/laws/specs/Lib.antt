-- A choice by a test, the first index that a test holds for, sums over ranges, the greatest common divisor, lists, and a number's bytes.
pub mod Choice
pub mod Search
pub mod Sum
pub mod Divisor
pub mod Lists
pub mod Digits
